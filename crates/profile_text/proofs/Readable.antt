-- A profile that was read can be written.
use Rattle.std.proofs.Common.{◌≡◌, ◌<◌, ◌&&◌, ◌||◌, not, inl, inr, ℕ, List, [], ◌∷◌, length, eqb, leb, Bool}
use Rattle.std.proofs.Common.{true, false, Option, Some, None, unwrap_or, refl, arith}
use Rattle.std.specs.Prelude.{filter_map, is_some, option_and_then}
use Rattle.std.specs.List.{cons_option, list_all}
use Rattle.std.proofs.lemmas.Bool.{cases_lt, le-leb}
use Rattle.serde_json.specs.Data.{Data}
use Rattle.json_tree.specs.Reading.{Both}
use Rattle.json_tree.specs.Tree.{text}
use Rattle.sys_table.specs.SysTable.{number_in}
use Rattle.sys_table.specs.declared.calls.CallTable.{CallTable}
use Rattle.oci_profile.specs.declared.decision.Decision.{Decision}
use Rattle.oci_profile.specs.declared.profile.Entry.{Entry}
use Rattle.oci_profile.specs.declared.profile.Profile.{Profile}
use Rattle.oci_profile.specs.Profile.{IsEntry, ReadsProfileWith, are_known, number_named, rank}
use Rattle.profile_text.specs.Writable.{are_named, is_named, is_writable, is_writable_entry}
use Rattle.profile_text.proofs.Entries.{Agree, both_true}

number_is_named : (calls : CallTable) (agree : Agree calls) (name : Option (List ℕ)) (n : ℕ)
    → option_and_then (number_in calls) name ≡ Some n
    → is_named calls n ≡ true
number_is_named calls agree None n is = absurd cc
number_is_named calls agree (Some name) n is = rw ((agree name n).0 is) refl

named_by : (calls : CallTable) (agree : Agree calls) (d : Data) (found : Option ℕ) (rest : List ℕ)
    → number_named calls d ≡ found
    → are_named calls rest ≡ true → are_named calls (cons_option found rest) ≡ true
unfolding number_named
named_by calls agree d None rest is named = named
named_by calls agree d (Some n) rest is named = rw (number_is_named calls agree (text d) n is) named

all_named : (calls : CallTable) (agree : Agree calls) (names : List Data)
    → are_named calls (filter_map (number_named calls) names) ≡ true
all_named calls agree [] = refl
all_named calls agree (d ∷ ds) = named_by calls agree d (number_named calls d) (filter_map
    (number_named calls) ds) refl
    (all_named calls agree ds)

not_none : (calls : CallTable) (d : Data) (found : Option ℕ) (ds : List Data) → is_some found ≡ true
    → not (eqb (length (cons_option found (filter_map (number_named calls) ds))) 0) ≡ true
not_none calls d None ds is = absurd cc
not_none calls d (Some n) ds is = grind (arith)

some_known : (calls : CallTable) (names : List Data) → 0 < length names → are_known calls names ≡ true
    → not (eqb (length (filter_map (number_named calls) names)) 0) ≡ true
some_known calls [] some known = absurd (omega arith)
some_known calls (d ∷ ds) some known = not_none calls d (number_named calls d) ds
    (both_true (is_some (number_named calls d)) (are_known calls ds) known).0

or_left : (a b : Bool) → a ≡ true → (a || b) ≡ true
or_left true b h = refl
or_left false b h = absurd cc

or_right : (a b : Bool) → b ≡ true → (a || b) ≡ true
or_right true b h = refl
or_right false b h = h

and_both : (a b : Bool) → a ≡ true → b ≡ true → (a && b) ≡ true
and_both true b h g = g
and_both false b h g = absurd cc

entry_writable : (calls : CallTable) (agree : Agree calls) (default : Decision) (tree : Data) (entry : Entry)
    → IsEntry calls default tree entry → is_writable_entry calls default entry ≡ true
entry_writable calls agree default tree entry is =
    let same : entry.numbers ≡ filter_map (number_named calls) is.names = is.numbers_are in
    let named : are_named calls entry.numbers ≡ true = rw same (all_named calls agree is.names) in
    let numbers : rank entry.decision < rank default → not (eqb (length entry.numbers) 0) ≡ true = λ strict.
    rw same (some_known calls is.names is.some (is.known strict)) in
    and_both (are_named calls entry.numbers) _ named (elim (cases_lt (rank entry.decision) (rank default)) [
      | inl strict ↦ or_left (not (eqb (length entry.numbers) 0)) (leb (rank default) (rank entry.decision))
          (numbers strict)
      | inr lenient ↦ or_right (not (eqb (length entry.numbers) 0)) (leb (rank default) (rank entry.decision))
          (le-leb (rank default) (rank entry.decision) lenient)
    ])

entries_writable : (calls : CallTable) (agree : Agree calls) (default : Decision) (trees : List Data)
    (entries : List Entry)
    → Both (IsEntry calls default) trees entries → list_all (is_writable_entry calls default) entries ≡ true
entries_writable calls agree default trees [] both = refl
entries_writable calls agree default [] (entry ∷ entries) both = absurd both
entries_writable calls agree default (tree ∷ trees) (entry ∷ entries) both =
    and_both (is_writable_entry calls default entry) _ (entry_writable calls agree default tree entry both.0)
    (entries_writable calls agree default trees entries both.1)

pub readable : (calls : CallTable) (agree : Agree calls) (bytes : List ℕ) (profile : Profile)
    → ReadsProfileWith calls bytes profile
    → is_writable calls profile ≡ true
readable calls agree bytes profile reads = entries_writable calls agree profile.default
    (unwrap_or reads.says.syscalls []) profile.entries reads.says.each
