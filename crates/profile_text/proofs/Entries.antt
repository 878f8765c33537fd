-- The written tree of an entry is a tree of that entry.
use Rattle.std.proofs.Common.{◌≡◌, ◌<◌, ◌≤◌, ◌&&◌, ◌||◌, not, ℕ, List, [], ◌∷◌, length, map, codes, eqb, leb}
use Rattle.std.proofs.Common.{Bool, true, false, Option, Some, None, unwrap_or, refl, sym, ap, subst, arith}
use Rattle.std.specs.Prelude.{◌↔◌, filter_map, is_some, option_map}
use Rattle.std.specs.List.{AllByRecursion, list_all}
use Rattle.std.proofs.lemmas.Bool.{leb-true}
use Rattle.serde_json.specs.Data.{Data, string, array, object, no_members, put}
use Rattle.serde_json.specs.Find.{get}
use Rattle.serde_json.specs.View.{items_of}
use Rattle.serde_json.proofs.OnLiterals.{serde_json_on_literals}
use Rattle.json_tree.specs.Tree.{list, member}
use Rattle.json_tree.specs.Reading.{Both, MayHaveField}
use Rattle.sys_table.specs.SysTable.{name_in, number_in}
use Rattle.sys_table.specs.declared.calls.CallTable.{CallTable}
use Rattle.oci_profile.specs.declared.decision.Decision.{Decision}
use Rattle.oci_profile.specs.declared.profile.Entry.{Entry}
use Rattle.oci_profile.specs.Profile.{IsCond, IsEntry, are_known, number_named, rank}
use Rattle.oci_profile.specs.Conditions.{AreConds}
use Rattle.profile_text.specs.Fits.{FitsDecision, FitsEntry}
use Rattle.profile_text.specs.Writable.{are_named, is_named, is_writable_entry}
use Rattle.profile_text.specs.Written.{action_name, cond_tree, entry_tree, entry_with, errno_of, name_text}
use Rattle.profile_text.specs.Written.{names_of, whole_number, with_list, with_whole}
use Rattle.profile_text.proofs.Parts.{conds_are, decides, list_back, texts_back}

-- the promises of sys_table about its names and numbers
abbrev pub Agree : CallTable → Type 0
Agree calls = (name : List ℕ) (number : ℕ)
    → (number_in calls name ≡ Some number) ↔ (name_in calls number ≡ Some name)

pub both_true : (a b : Bool) → (a && b) ≡ true → (a ≡ true) × (b ≡ true)
both_true true b h = (refl, h)
both_true false b h = absurd cc

name_back : (calls : CallTable) (agree : Agree calls) (n : ℕ) (name : Option (List ℕ)) → name_in calls n ≡ name
    → is_some name ≡ true → number_in calls (unwrap_or name []) ≡ Some n
name_back calls agree n None is named = absurd cc
name_back calls agree n (Some name) is named = (agree name n).1 is

number_back : (calls : CallTable) (agree : Agree calls) (n : ℕ) → is_named calls n ≡ true
    → number_named calls (string (name_text calls n)) ≡ Some n
unfolding number_named
number_back calls agree n named = name_back calls agree n (name_in calls n) refl named

numbers_back : (calls : CallTable) (agree : Agree calls) (ns : List ℕ) → are_named calls ns ≡ true
    → ns ≡ filter_map (number_named calls) (map string (map (name_text calls) ns))
numbers_back calls agree [] named = refl
numbers_back calls agree (n ∷ ns) named =
    let parts = both_true (is_named calls n) (are_named calls ns) named in
    rw (number_back calls agree n parts.0) (ap (λ rest. n ∷ rest) (numbers_back calls agree ns parts.1))

all_known : (calls : CallTable) (agree : Agree calls) (ns : List ℕ) → are_named calls ns ≡ true
    → are_known calls (map string (map (name_text calls) ns)) ≡ true
all_known calls agree [] named = refl
all_known calls agree (n ∷ ns) named =
    let parts = both_true (is_named calls n) (are_named calls ns) named in
    rw (number_back calls agree n parts.0) (all_known calls agree ns parts.1)

no_name : (calls : CallTable) → number_named calls (string []) ≡ None
unfolding number_named number_in
no_name calls = refl

pub numbers_are : (calls : CallTable) (agree : Agree calls) (ns : List ℕ) → are_named calls ns ≡ true
    → ns ≡ filter_map (number_named calls) (map string (names_of calls ns))
numbers_are calls agree [] named = rw (no_name calls) refl
numbers_are calls agree (n ∷ ns) named = numbers_back calls agree (n ∷ ns) named

pub known : (calls : CallTable) (agree : Agree calls) (default decision : Decision) (ns : List ℕ)
    → are_named calls ns ≡ true
    → (not (eqb (length ns) 0) || leb (rank default) (rank decision)) ≡ true → rank decision < rank default
    → are_known calls (map string (names_of calls ns)) ≡ true
known calls agree default decision [] named lenient strict =
    absurd (let le : rank default ≤ rank decision = leb-true (rank default) (rank decision) lenient in
    omega arith)
known calls agree default decision (n ∷ ns) named lenient strict = all_known calls agree (n ∷ ns) named

some_names : (calls : CallTable) (ns : List ℕ) → 0 < length (map string (names_of calls ns))
some_names calls [] = omega arith
some_names calls (n ∷ ns) = omega arith

-- the conditions, if there are any
abbrev args_of : List Data → Option (List Data)
args_of [] = None
args_of (d ∷ ds) = Some (d ∷ ds)

abbrev list_at : List Data → Option Data
list_at [] = None
list_at (d ∷ ds) = Some (array (items_of (d ∷ ds)))

record HasEntryFields (action : List ℕ) (errno : Option ℕ) (args : List Data) (names : List Data)
    (tree : Data) : Type 0 where
  names_there : get (codes "names") tree ≡ Some (array (items_of names))
  action_there : get (codes "action") tree ≡ Some (string action)
  errno_there : get (codes "errnoRet") tree ≡ option_map whole_number errno
  list_there : get (codes "args") tree ≡ list_at args

abbrev parts_tree : List ℕ → Option ℕ → List Data → List Data → Data
parts_tree action errno args names = object (
    with_whole (codes "errnoRet") errno (with_list (codes "args") args
    (put (codes "action") (string action) (put (codes "names") (array (items_of names)) no_members))))

entry_fields : (action : List ℕ) (errno : Option ℕ) (args names : List Data)
    → HasEntryFields action errno args names (parts_tree action errno args names)
unfolding serde_json_on_literals
entry_fields action None [] names = record {
  names_there = refl;
  action_there = refl;
  errno_there = refl;
  list_there = refl;
}
entry_fields action None (d ∷ ds) names =
    record { names_there = refl; action_there = refl; errno_there = refl; list_there = refl }
entry_fields action (Some e) [] names =
    record { names_there = refl; action_there = refl; errno_there = refl; list_there = refl }
entry_fields action (Some e) (d ∷ ds) names =
    record { names_there = refl; action_there = refl; errno_there = refl; list_there = refl }

may_have_list : (tree : Data) (args : List Data) → get (codes "args") tree ≡ list_at args
    → MayHaveField list (codes "args") tree (args_of args)
unfolding member
may_have_list tree [] is = rw is refl
may_have_list tree (d ∷ ds) is = (array (items_of (d ∷ ds)), rw is refl, list_back (d ∷ ds))

args_back : (args : List Data) → unwrap_or (args_of args) [] ≡ args
args_back [] = refl
args_back (d ∷ ds) = refl

-- the tree of an entry that is written with these names
pub said : (calls : CallTable) (default : Decision) (names : List (List ℕ)) (entry : Entry) → FitsDecision entry.decision
    → AreConds entry.conds → 0 < length (map string names)
    → entry.numbers ≡ filter_map (number_named calls) (map string names)
    → (rank entry.decision < rank default → are_known calls (map string names) ≡ true)
    → IsEntry calls default (entry_with (map string names) (action_name entry.decision)
    (errno_of entry.decision) entry.conds) entry
said calls default names entry fits conds_fit some numbers known =
    let args : List Data = map cond_tree entry.conds in
    let tree : Data = entry_with (map string names) (action_name entry.decision)
    (errno_of entry.decision) entry.conds in
    let fields = entry_fields (action_name entry.decision) (errno_of entry.decision) args
    (map string names) in
    record {
      an_object = refl;
      names = map string names;
      there = (array (items_of (map string names)), fields.names_there, texts_back names);
      some = some;
      decides = decides (codes "action") (codes "errnoRet") tree entry.decision fits fields.action_there
          fields.errno_there;
      args = args_of args;
      args_there = may_have_list tree args fields.list_there;
      conds_are = subst (λ ds. Both IsCond ds entry.conds) (sym (args_back args)) (conds_are entry.conds);
      conds_fit = conds_fit;
      numbers_are = numbers;
      known = known;
    }

pub entry_is : (calls : CallTable) (agree : Agree calls) (default : Decision) (entry : Entry) → FitsEntry entry
    → is_writable_entry calls default entry ≡ true → IsEntry calls default (entry_tree calls entry) entry
entry_is calls agree default entry fits writable =
    let parts = both_true (are_named calls entry.numbers) _ writable in
    said calls default (names_of calls entry.numbers) entry fits.decision fits.conds
    (some_names calls entry.numbers) (numbers_are calls agree entry.numbers parts.0)
    (known calls agree default entry.decision entry.numbers parts.0 parts.1)

pub entries_are : (calls : CallTable) (agree : Agree calls) (default : Decision) (entries : List Entry)
    → AllByRecursion FitsEntry entries → list_all (is_writable_entry calls default) entries ≡ true
    → Both (IsEntry calls default) (map (entry_tree calls) entries) entries
entries_are calls agree default [] fits writable = tt
entries_are calls agree default (entry ∷ entries) fits writable =
    let parts = both_true (is_writable_entry calls default entry)
    (list_all (is_writable_entry calls default) entries) writable in (
      entry_is calls agree default entry fits.0 parts.0,
      entries_are calls agree default entries fits.1 parts.1,
    )
