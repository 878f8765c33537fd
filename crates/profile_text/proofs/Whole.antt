-- The text of a profile reads as that profile.
use Rattle.std.proofs.Common.{◌≡◌, ◌≤◌, ℕ, List, [], ◌∷◌, length, map, codes, true, false, Option, Some, None}
use Rattle.std.proofs.Common.{refl, sym, subst, arith}
use Rattle.std.specs.Prelude.{option_map}
use Rattle.std.specs.List.{AllByRecursion}
use Rattle.std.specs.Str.{IsUtf8}
use Rattle.std.proofs.lemmas.Str.{is_utf8-from_IsUtf8}
use Rattle.serde_json.specs.Data.{Data, string, array, object, no_members, put, depth, items_depth}
use Rattle.serde_json.specs.Find.{get}
use Rattle.serde_json.specs.Read.{max_depth, read}
use Rattle.serde_json.specs.View.{items_of}
use Rattle.serde_json.specs.Written.{has_float, items_have_float}
use Rattle.serde_json.proofs.OnLiterals.{serde_json_on_literals}
use Rattle.json_tree.specs.Tree.{list, member, text, text_list, tree_of}
use Rattle.json_tree.specs.Reading.{MayHaveField}
use Rattle.sys_table.specs.declared.calls.CallTable.{CallTable}
use Rattle.oci_profile.specs.declared.conditions.Cond.{Cond}
use Rattle.oci_profile.specs.declared.conditions.Op.{Op}
use Rattle.oci_profile.specs.declared.profile.Entry.{Entry}
use Rattle.oci_profile.specs.declared.profile.Profile.{Profile}
use Rattle.oci_profile.specs.declared.reader.TheConstants.{MAX_PROFILE_BYTES}
use Rattle.oci_profile.specs.Profile.{IsProfile, ReadsProfileWith}
use Rattle.profile_text.specs.Fits.{FitsDecision, FitsEntry}
use Rattle.profile_text.specs.Writable.{is_writable}
use Rattle.profile_text.specs.Written.{action_name, cond_tree, entry_tree, errno_of, names_of, op_name}
use Rattle.profile_text.specs.Written.{profile_tree, two_of, whole_number, with_list, with_whole}
use Rattle.profile_text.proofs.Entries.{Agree, entries_are}
use Rattle.profile_text.proofs.Parts.{decides, list_back}

abbrev profile_with : List ℕ → Option ℕ → List Data → Data
profile_with action errno entries = object
    (with_whole (codes "defaultErrnoRet") errno
    (put (codes "defaultAction") (string action)
    (put (codes "syscalls") (array (items_of entries)) no_members)))

record HasProfileFields (action : List ℕ) (errno : Option ℕ) (entries : List Data)
    (tree : Data) : Type 0 where
  action_there : get (codes "defaultAction") tree ≡ Some (string action)
  errno_there : get (codes "defaultErrnoRet") tree ≡ option_map whole_number errno
  list_there : get (codes "syscalls") tree ≡ Some (array (items_of entries))
  no_architectures : get (codes "architectures") tree ≡ None
  no_flags : get (codes "flags") tree ≡ None
  no_path : get (codes "listenerPath") tree ≡ None
  no_metadata : get (codes "listenerMetadata") tree ≡ None

profile_fields : (action : List ℕ) (errno : Option ℕ) (entries : List Data)
    → HasProfileFields action errno entries (profile_with action errno entries)
unfolding serde_json_on_literals
profile_fields action None entries = record {
  action_there = refl;
  errno_there = refl;
  list_there = refl;
  no_architectures = refl;
  no_flags = refl;
  no_path = refl;
  no_metadata = refl;
}
profile_fields action (Some e) entries =
    record {
      action_there = refl;
      errno_there = refl;
      list_there = refl;
      no_architectures = refl;
      no_flags =
          refl;
      no_path = refl;
      no_metadata = refl;
    }

pub not_there : {A : Type 0} (kind : Data → Option A) (key : List ℕ) (tree : Data) → get key tree ≡ None
    → MayHaveField kind key tree None
unfolding member
not_there kind key tree none = rw none refl

pub list_there : (tree : Data) (ds : List Data) → get (codes "syscalls") tree ≡ Some (array (items_of ds))
    → MayHaveField list (codes "syscalls") tree (Some ds)
unfolding member
list_there tree ds is = (array (items_of ds), rw is refl, list_back ds)

profile_is : (calls : CallTable) (agree : Agree calls) (profile : Profile) → AllByRecursion FitsEntry profile.entries
    → FitsDecision profile.default → is_writable calls profile ≡ true
    → IsProfile calls (profile_tree calls profile) profile
unfolding profile_tree
profile_is calls agree profile fits fits_default writable =
    let entries : List Data = map (entry_tree calls) profile.entries in
    let tree : Data = profile_with (action_name profile.default) (errno_of profile.default) entries in
    let fields = profile_fields (action_name profile.default) (errno_of profile.default) entries in
    record {
      an_object = refl;
      decides = decides (codes "defaultAction") (codes "defaultErrnoRet") tree profile.default fits_default
          fields.action_there fields.errno_there;
      ignored = record {
        architectures = None;
        architectures_there = not_there text_list (codes "architectures") tree fields.no_architectures;
        flags = None;
        flags_there = not_there text_list (codes "flags") tree fields.no_flags;
        path = None;
        path_there = not_there text (codes "listenerPath") tree fields.no_path;
        metadata = None;
        metadata_there = not_there text (codes "listenerMetadata") tree fields.no_metadata;
      };
      syscalls = Some entries;
      there = list_there tree entries fields.list_there;
      each = entries_are calls agree profile.default profile.entries fits writable;
    }

-- no number of it is a float
cond_no_float : (index : ℕ) (op : Op) (value : ℕ) (given : Option ℕ)
    → has_float (object (with_whole (codes "valueTwo") given
    (put (codes "op") (string (op_name op))
    (put (codes "value") (whole_number value) (put (codes "index") (whole_number index) no_members)))))
    ≡ false
unfolding serde_json_on_literals
cond_no_float index op value None = refl
cond_no_float index op value (Some two) = refl

pub conds_no_float : (conds : List Cond) → items_have_float (items_of (map cond_tree conds)) ≡ false
conds_no_float [] = refl
conds_no_float (c ∷ cs) = rw (cond_no_float c.index c.op c.value (two_of c.value_two)) (conds_no_float cs)

pub names_no_float : (names : List (List ℕ)) → items_have_float (items_of (map string names)) ≡ false
names_no_float [] = refl
names_no_float (name ∷ names) = names_no_float names

pub entry_no_float : (action : List ℕ) (errno : Option ℕ) (args names : List Data)
    → items_have_float (items_of args) ≡ false → items_have_float (items_of names) ≡ false
    → has_float (object (with_whole (codes "errnoRet") errno
    (with_list (codes "args") args (put (codes "action") (string action)
    (put (codes "names") (array (items_of names)) no_members))))) ≡ false
unfolding serde_json_on_literals
entry_no_float action None [] names args_none names_none = rw names_none refl
entry_no_float action None (d ∷ ds) names args_none names_none = rw (args_none, names_none) refl
entry_no_float action (Some e) [] names args_none names_none = rw names_none refl
entry_no_float action (Some e) (d ∷ ds) names args_none names_none = rw (args_none, names_none) refl

entries_no_float : (calls : CallTable) (entries : List Entry)
    → items_have_float (items_of (map (entry_tree calls) entries)) ≡ false
entries_no_float calls [] = refl
entries_no_float calls (entry ∷ entries) =
    rw (entry_no_float (action_name entry.decision) (errno_of entry.decision) (map cond_tree entry.conds)
    (map string (names_of calls entry.numbers)) (conds_no_float entry.conds)
    (names_no_float (names_of calls entry.numbers)))
    (entries_no_float calls entries)

profile_no_float : (action : List ℕ) (errno : Option ℕ) (entries : List Data)
    → items_have_float (items_of entries) ≡ false → has_float (profile_with action errno entries) ≡ false
unfolding serde_json_on_literals
profile_no_float action None entries none = rw none refl
profile_no_float action (Some e) entries none = rw none refl

pub no_float : (calls : CallTable) (profile : Profile) → has_float (profile_tree calls profile) ≡ false
unfolding profile_tree
no_float calls profile = profile_no_float (action_name profile.default) (errno_of profile.default)
    (map (entry_tree calls) profile.entries) (entries_no_float calls profile.entries)

-- it does not nest deep
cond_shallow : (index : ℕ) (op : Op) (value : ℕ) (given : Option ℕ)
    → depth (object (with_whole (codes "valueTwo") given
    (put (codes "op") (string (op_name op))
    (put (codes "value") (whole_number value) (put (codes "index") (whole_number index) no_members))))) ≤ 1
unfolding serde_json_on_literals
cond_shallow index op value None = omega arith
cond_shallow index op value (Some two) = omega arith

pub conds_shallow : (conds : List Cond) → items_depth (items_of (map cond_tree conds)) ≤ 1
conds_shallow [] = omega arith
conds_shallow (c ∷ cs) = omega (
  arith,
  cond_shallow c.index c.op c.value (two_of c.value_two),
  conds_shallow cs,
)

pub names_shallow : (names : List (List ℕ)) → items_depth (items_of (map string names)) ≤ 0
names_shallow [] = omega arith
names_shallow (name ∷ names) = omega (arith, names_shallow names)

pub entry_shallow : (action : List ℕ) (errno : Option ℕ) (args names : List Data)
    → items_depth (items_of args) ≤ 1 → items_depth (items_of names) ≤ 0
    → depth (object (with_whole (codes "errnoRet") errno
    (with_list (codes "args") args (put (codes "action") (string action)
    (put (codes "names") (array (items_of names)) no_members))))) ≤ 3
unfolding serde_json_on_literals
entry_shallow action None [] names args_low names_low = omega arith
entry_shallow action None (d ∷ ds) names args_low names_low = omega arith
entry_shallow action (Some e) [] names args_low names_low = omega arith
entry_shallow action (Some e) (d ∷ ds) names args_low names_low = omega arith

entries_shallow : (calls : CallTable) (entries : List Entry)
    → items_depth (items_of (map (entry_tree calls) entries)) ≤ 3
entries_shallow calls [] = omega arith
entries_shallow calls (entry ∷ entries) =
    omega (
      arith,
      entry_shallow (action_name entry.decision) (errno_of entry.decision) (map cond_tree entry.conds)
          (map string (names_of calls entry.numbers)) (conds_shallow entry.conds)
          (names_shallow (names_of calls entry.numbers)),
      entries_shallow calls entries,
    )

profile_shallow : (action : List ℕ) (errno : Option ℕ) (entries : List Data)
    → items_depth (items_of entries) ≤ 3 → depth (profile_with action errno entries) ≤ 5
unfolding serde_json_on_literals
profile_shallow action None entries low = omega arith
profile_shallow action (Some e) entries low = omega arith

shallow : (calls : CallTable) (profile : Profile) → depth (profile_tree calls profile) ≤ max_depth
unfolding profile_tree
shallow calls profile = omega (
  arith,
  profile_shallow (action_name profile.default) (errno_of profile.default)
      (map (entry_tree calls) profile.entries) (entries_shallow calls profile.entries),
)

pub told : (bytes : List ℕ) (tree : Data) → IsUtf8 bytes → read bytes ≡ Some tree → tree_of bytes ≡ Some tree
unfolding tree_of
told bytes tree utf8 is = rw (is_utf8-from_IsUtf8 bytes utf8) is

pub reads : (calls : CallTable) (agree : Agree calls) (profile : Profile) (tree : Data) (bytes : List ℕ)
    → tree ≡ profile_tree calls profile
    → AllByRecursion FitsEntry profile.entries → FitsDecision profile.default → is_writable calls profile ≡ true
    → IsUtf8 bytes → (depth tree ≤ max_depth → read bytes ≡ Some tree) → length bytes ≤ MAX_PROFILE_BYTES
    → ReadsProfileWith calls bytes profile
reads calls agree profile tree bytes is fits fits_default writable utf8 back short =
    let levels : depth tree ≤ max_depth = rw is (shallow calls profile) in
    record {
      short = short;
      tree = tree;
      is = told bytes tree utf8 (back levels);
      says = subst (λ t. IsProfile calls t profile) (sym is)
          (profile_is calls agree profile fits fits_default writable);
    }
