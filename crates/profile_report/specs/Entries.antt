-- The entries of a profile in a report, this project's own: docs/SEMANTICS.md, "A report".
use Rattle.std.specs.Prelude.{ℕ, ◌+◌, ◌-◌, List, [], ◌∷◌, ◌++◌, codes, length, Some, None}
use Rattle.std.specs.Fmt.{decimal}
use Rattle.oci_profile.specs.declared.profile.Entry.{Entry}
use Rattle.oci_profile.specs.declared.profile.Profile.{Profile}
use Rattle.oci_profile.specs.Decision.{value_of}
use Rattle.profile_lint.specs.declared.finding.Finding.{Finding}
use Rattle.profile_lint.specs.declared.passed.Passed.{Passed}
use Rattle.sys_table.specs.declared.calls.CallTable.{CallTable}
use Rattle.profile_table.specs.Text.{count_text, names_text}
use Rattle.action.specs.Shown.{value_text}
use Rattle.profile_report.specs.More.{more_text}
use Rattle.profile_report.specs.Notes.{notes_about}
use Rattle.profile_report.specs.Ways.{first, shown_conds}
use Rattle.profile_report.specs.Words.{letter_in}
use Rattle.profile_report.specs.declared.entries.TheConstants.{SHOWN_NAMES, SHOWN_NOTES, SHOWN_OTHERS}
use Rattle.profile_report.specs.declared.words.TheConstants.{SHOWN_ENTRIES}

-- how many calls an entry names, and the first ones
unfoldable pub names_html : CallTable → List ℕ → List ℕ
names_html calls numbers = count_text (length numbers) ++ (names_text calls 0 (first SHOWN_NAMES numbers)
    ++ more_text (codes " and ") (length numbers - SHOWN_NAMES) (codes " more"))

-- the head of an entry, and its decision
unfoldable pub entry_head : ℕ → ℕ → List ℕ
entry_head place value =
    codes "<section class=\"" ++ (letter_in value ++ (codes "\" id=\"e" ++ (decimal place
    ++ (codes "\"><h3><b>" ++ (letter_in value ++ (codes "</b> syscalls[" ++ (decimal place
    ++ (codes "]</h3>\n<p>" ++ value_text value))))))))

-- all conditions of an entry, and its calls
unfoldable pub entry_body : CallTable → Entry → List ℕ
entry_body calls entry =
    shown_conds 6 entry.conds ++ (codes "</p>\n<p>" ++ (names_html calls entry.numbers ++ codes "</p>\n"))

-- an entry, with the findings about it
unfoldable pub entry_html : CallTable → List Passed → List Finding → ℕ → Entry → List ℕ
entry_html calls passed finds place entry =
    entry_head place (value_of entry.decision) ++ (entry_body calls entry
    ++ (notes_about calls SHOWN_NOTES (Some place) passed finds ++ codes "</section>\n"))

-- entries from this place on
abbrev pub entries_from : CallTable → List Passed → List Finding → ℕ → List Entry → List ℕ
entries_from calls passed finds place [] = []
entries_from calls passed finds place (entry ∷ entries) =
    entry_html calls passed finds place entry ++ entries_from calls passed finds (place + 1) entries

unfoldable pub default_head : ℕ → List ℕ
default_head value =
    codes "<section class=\"" ++ (letter_in value ++ (codes "\" id=\"default\"><h3><b>" ++ (letter_in value
    ++ (codes "</b> defaultAction</h3>\n<p>" ++ (value_text value
    ++ codes "</p>\n<p>every call that no entry decides</p>\n")))))

-- the default, with the findings that are about no entry
unfoldable pub default_html : CallTable → ℕ → List Passed → List Finding → List ℕ
default_html calls value passed finds =
    default_head value ++ (notes_about calls SHOWN_OTHERS None passed finds ++ codes "</section>\n")

-- the first entries, how many more there are, and the default
unfoldable pub entries_html : CallTable → Profile → List Passed → List Finding → List ℕ
entries_html calls profile passed finds =
    entries_from calls passed finds 0 (first SHOWN_ENTRIES profile.entries)
    ++ (more_text (codes "<p class=\"m\">") (length profile.entries - SHOWN_ENTRIES)
    (codes " more entries, which <code>seccheck table</code> prints</p>\n")
    ++ default_html calls (value_of profile.default) passed finds)
