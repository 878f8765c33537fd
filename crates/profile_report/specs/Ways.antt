-- The entries with conditions in the cell of a call, this project's own: docs/SEMANTICS.md, "A report".
use Rattle.std.specs.Prelude.{ℕ, ◌+◌, ◌-◌, ◌&&◌, if◌then◌else◌, List, [], ◌∷◌, ◌++◌, codes, length, min}
use Rattle.std.specs.Prelude.{Option, Some, None, nat_le, slice_get, take}
use Rattle.oci_profile.specs.declared.conditions.Cond.{Cond}
use Rattle.oci_profile.specs.declared.profile.Entry.{Entry}
use Rattle.oci_profile.specs.Decision.{value_of}
use Rattle.oci_profile.specs.Meaning.{names}
use Rattle.explain.specs.declared.explanation.Decider.TheVariants as by
use Rattle.profile_table.specs.Text.{cond_text, cond_word, is_before}
use Rattle.profile_table.specs.declared.row.Row.{Row}
use Rattle.profile_report.specs.Escaped.{html_text}
use Rattle.profile_report.specs.More.{more_text}
use Rattle.profile_report.specs.Words.{linked_text}
use Rattle.profile_report.specs.declared.ways.TheConstants.{FEW_ASKED, SHOWN_OF_FEW, SHOWN_OF_MANY}

-- the first of a list, at most so many
abbrev pub first : {A : Type 0} → ℕ → List A → List A
first count xs = take (min (length xs) count) xs

-- a condition, as `args[0] &amp; 0x7e020000 == 0`: 64 bytes have room for each
abbrev pub cond_html : Cond → List ℕ
cond_html cond = html_text 64 (cond_text cond)

-- conditions from this place on
abbrev pub conds_html : ℕ → List Cond → List ℕ
conds_html place [] = []
conds_html place (cond ∷ conds) = cond_word place ++ (cond_html cond ++ conds_html (place + 1) conds)

-- the first conditions of an entry, and how many more it has
abbrev pub shown_conds : ℕ → List Cond → List ℕ
shown_conds count conds =
    conds_html 0 (first count conds) ++ more_text (codes " and ") (length conds - count) (codes " more")

-- an entry that decides if its conditions hold
abbrev pub way_html : ℕ → ℕ → Entry → List ℕ
way_html count place entry =
    linked_text (value_of entry.decision) (by.Entry place) ++ (shown_conds count entry.conds
    ++ codes ", else ")

-- the place, if its entry comes before the one that decides and names the number
unfoldable pub asking_at : Row → ℕ → Entry → List ℕ
asking_at row place entry = if is_before place row.decider && names entry row.nr then place ∷ [] else []

-- the places of the entries that are asked before, in order
abbrev pub asking : Row → ℕ → List Entry → List ℕ
asking row place [] = []
asking row place (entry ∷ entries) = asking_at row place entry ++ asking row (place + 1) entries

abbrev pub way_or : ℕ → ℕ → Option Entry → List ℕ
way_or count place None = []
way_or count place (Some entry) = way_html count place entry

abbrev pub ways_at : ℕ → List Entry → List ℕ → List ℕ
ways_at count entries [] = []
ways_at count entries (place ∷ places) =
    way_or count place (slice_get entries place) ++ ways_at count entries places

-- so many entries and conditions of each are shown in a cell, if so many calls have some
unfoldable pub shown_for : ℕ → ℕ
shown_for calls = if nat_le calls FEW_ASKED then SHOWN_OF_FEW else SHOWN_OF_MANY

-- the first entries at these places, and how many more there are
abbrev pub ways_html : ℕ → List Entry → List ℕ → List ℕ
ways_html count entries places = ways_at count entries (first count places)
    ++ more_text (codes "by ") (length places - count) (codes " more with conditions, else ")
