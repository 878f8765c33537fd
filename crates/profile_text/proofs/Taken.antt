-- The text of entries with their names reads as their profile.
use Rattle.std.proofs.Common.{◌≡◌, ◌<◌, ◌≤◌, ℕ, List, [], ◌∷◌, length, map, codes, cond, Bool, true, false}
use Rattle.std.proofs.Common.{Option, Some, None, refl, sym, ap, subst, arith}
use Rattle.std.specs.Prelude.{filter, filter_map, is_some, option_map}
use Rattle.std.specs.List.{AllByRecursion, cons_option}
use Rattle.std.specs.Str.{IsUtf8}
use Rattle.std.proofs.lemmas.Bool.{lt-ltb}
use Rattle.serde_json.specs.Data.{Data, string, array, object, no_members, put, depth, items_depth}
use Rattle.serde_json.specs.Find.{get}
use Rattle.serde_json.specs.Read.{max_depth, read}
use Rattle.serde_json.specs.View.{items_of}
use Rattle.serde_json.specs.Written.{has_float, items_have_float}
use Rattle.serde_json.proofs.OnLiterals.{serde_json_on_literals}
use Rattle.json_tree.specs.Tree.{member, text, text_list}
use Rattle.json_tree.specs.Reading.{Both, MayHaveField}
use Rattle.sys_table.specs.SysTable.{number_in}
use Rattle.sys_table.specs.declared.calls.CallTable.{CallTable}
use Rattle.oci_profile.specs.declared.conditions.Cond.{Cond}
use Rattle.oci_profile.specs.declared.decision.Decision.{Decision}
use Rattle.oci_profile.specs.declared.profile.Entry.{Entry}
use Rattle.oci_profile.specs.declared.reader.TheConstants.{MAX_PROFILE_BYTES}
use Rattle.oci_profile.specs.Profile.{IsEntry, IsProfile, ReadsProfileWith, are_known, number_named, rank}
use Rattle.profile_text.specs.declared.named.NamedEntry.{NamedEntry}
use Rattle.profile_text.specs.Fits.{FitsDecision, FitsNamed}
use Rattle.profile_text.specs.Named.{entry_if, is_stricter, is_taken, named_entry, named_profile}
use Rattle.profile_text.specs.Named.{named_profile_tree, named_tree, taken_names, tree_if}
use Rattle.profile_text.specs.Written.{action_name, cond_tree, errno_of, whole_number, with_list, with_whole}
use Rattle.profile_text.proofs.Entries.{said}
use Rattle.profile_text.proofs.Parts.{decides, texts_back}
use Rattle.profile_text.proofs.Whole.{conds_no_float, conds_shallow, entry_no_float, entry_shallow}
use Rattle.profile_text.proofs.Whole.{list_there, names_no_float, names_shallow, not_there, told}

module _ (calls : CallTable) where
  numbers_named : (names : List (List ℕ))
      → filter_map (number_in calls) names ≡ filter_map (number_named calls) (map string names)
  unfolding number_named
  numbers_named [] = refl
  numbers_named (name ∷ names) = ap (cons_option (number_in calls name)) (numbers_named names)

  known_more : (name : List ℕ) (rest : List (List ℕ)) (is_known : Bool) → is_some (number_in calls name) ≡ is_known
      → are_known calls (map string rest) ≡ true → are_known calls (map string (cond is_known (name ∷ rest) rest)) ≡ true
  unfolding number_named
  known_more name rest true is all = rw is all
  known_more name rest false is all = all

  known_taken : (strict : Bool) (names : List (List ℕ)) → strict ≡ true
      → are_known calls (map string (filter (is_taken calls strict) names)) ≡ true
  known_taken false names is = absurd cc
  known_taken true [] is = refl
  known_taken true (name ∷ names) is = known_more name (filter (is_taken calls true) names)
      (is_some (number_in calls name)) refl (known_taken true names refl)

  some_more : (name : List ℕ) (names : List (List ℕ)) → 0 < length (map string (name ∷ names))
  some_more name names = omega arith

  -- one more entry
  one : (default : Decision) (entry : NamedEntry) (names : List (List ℕ)) → taken_names calls default entry ≡ names
      → FitsNamed entry → (trees : List Data) (entries : List Entry) → Both (IsEntry calls default) trees entries
      → Both (IsEntry calls default) (cons_option (tree_if entry.decision entry.conds names) trees)
      (cons_option (entry_if calls entry.decision entry.conds names) entries)
  one default entry [] is fits trees entries both = both
  one default entry (name ∷ names) is fits trees entries both =
      let known : rank entry.decision < rank default → are_known calls (map string (name ∷ names)) ≡ true = λ strict.
      subst (λ taken. are_known calls (map string taken) ≡ true) is
      (known_taken (is_stricter default entry.decision) entry.names
      (lt-ltb (rank entry.decision) (rank default) strict)) in (
        said calls default (name ∷ names) (record {
          numbers = filter_map (number_in calls) (name ∷ names);
          decision =
              entry.decision;
          conds = entry.conds;
        }) fits.decision fits.conds (some_more name names)
            (numbers_named (name ∷ names)) known,
        both,
      )

  each_is : (default : Decision) (entries : List NamedEntry) → AllByRecursion FitsNamed entries
      → Both (IsEntry calls default) (filter_map (named_tree calls default) entries)
      (filter_map (named_entry calls default) entries)
  each_is default [] fits = tt
  each_is default (entry ∷ entries) fits =
      one default entry (taken_names calls default entry) refl fits.0 (filter_map (named_tree calls default) entries)
      (filter_map (named_entry calls default) entries) (each_is default entries fits.1)

  abbrev whole_with : List ℕ → Option ℕ → List Data → List Data → Data
  whole_with action errno entries architectures = object (
      with_list (codes "architectures") architectures (
      with_whole (codes "defaultErrnoRet") errno
      (put (codes "defaultAction") (string action)
      (put (codes "syscalls") (array (items_of entries)) no_members))))

  abbrev list_at : List Data → Option Data
  list_at [] = None
  list_at (d ∷ ds) = Some (array (items_of (d ∷ ds)))

  record HasFields (action : List ℕ) (errno : Option ℕ) (entries architectures : List Data)
      (tree : Data) : Type 0 where
    action_there : get (codes "defaultAction") tree ≡ Some (string action)
    errno_there : get (codes "defaultErrnoRet") tree ≡ option_map whole_number errno
    list_at_syscalls : get (codes "syscalls") tree ≡ Some (array (items_of entries))
    architectures_there : get (codes "architectures") tree ≡ list_at architectures
    no_flags : get (codes "flags") tree ≡ None
    no_path : get (codes "listenerPath") tree ≡ None
    no_metadata : get (codes "listenerMetadata") tree ≡ None

  fields_of : (action : List ℕ) (errno : Option ℕ) (entries architectures : List Data)
      → HasFields action errno entries architectures (whole_with action errno entries architectures)
  unfolding serde_json_on_literals
  fields_of action None entries [] = record {
    action_there = refl;
    errno_there = refl;
    list_at_syscalls = refl;
    architectures_there = refl;
    no_flags = refl;
    no_path = refl;
    no_metadata = refl;
  }
  fields_of action None entries (d ∷ ds) =
      record {
        action_there = refl;
        errno_there = refl;
        list_at_syscalls = refl;
        architectures_there = refl;
        no_flags = refl;
        no_path = refl;
        no_metadata = refl;
      }
  fields_of action (Some e) entries [] = record {
    action_there = refl;
    errno_there = refl;
    list_at_syscalls =
        refl;
    architectures_there = refl;
    no_flags = refl;
    no_path = refl;
    no_metadata = refl;
  }
  fields_of action (Some e) entries (d ∷ ds) =
      record {
        action_there = refl;
        errno_there = refl;
        list_at_syscalls = refl;
        architectures_there = refl;
        no_flags = refl;
        no_path = refl;
        no_metadata = refl;
      }

  abbrev texts_of : List (List ℕ) → Option (List Data)
  texts_of [] = None
  texts_of (t ∷ ts) = Some (map string (t ∷ ts))

  may_have_texts : (key : List ℕ) (tree : Data) (texts : List (List ℕ))
      → get key tree ≡ list_at (map string texts) → MayHaveField text_list key tree (texts_of texts)
  unfolding member
  may_have_texts key tree [] is = rw is refl
  may_have_texts key tree (t ∷ ts) is = (
    array (items_of (map string (t ∷ ts))),
    rw is refl,
    texts_back (t ∷ ts),
  )

  profile_is : (default : Decision) (architectures : List (List ℕ)) (entries : List NamedEntry)
      → AllByRecursion FitsNamed entries → FitsDecision default
      → IsProfile calls (named_profile_tree calls default architectures entries) (named_profile calls default entries)
  unfolding named_profile_tree named_profile
  profile_is default architectures entries fits fits_default =
      let trees : List Data = filter_map (named_tree calls default) entries in
      let tree : Data = whole_with (action_name default) (errno_of default) trees (map string architectures) in
      let fields = fields_of (action_name default) (errno_of default) trees (map string architectures) in
      record {
        an_object = refl;
        decides = decides (codes "defaultAction") (codes "defaultErrnoRet") tree default fits_default
            fields.action_there fields.errno_there;
        ignored = record {
          architectures = texts_of architectures;
          architectures_there = may_have_texts (codes "architectures") tree architectures
              fields.architectures_there;
          flags = None;
          flags_there = not_there text_list (codes "flags") tree fields.no_flags;
          path = None;
          path_there = not_there text (codes "listenerPath") tree fields.no_path;
          metadata = None;
          metadata_there = not_there text (codes "listenerMetadata") tree fields.no_metadata;
        };
        syscalls = Some trees;
        there = list_there tree trees fields.list_at_syscalls;
        each = each_is default entries fits;
      }

  -- no number of it is a float
  tree_no_float : (decision : Decision) (conds : List Cond) (names : List (List ℕ)) (rest : List Data)
      → items_have_float (items_of rest) ≡ false
      → items_have_float (items_of (cons_option (tree_if decision conds names) rest)) ≡ false
  tree_no_float decision conds [] rest none = none
  tree_no_float decision conds (name ∷ names) rest none =
      rw (entry_no_float (action_name decision) (errno_of decision) (map cond_tree conds)
      (map string (name ∷ names)) (conds_no_float conds) (names_no_float (name ∷ names))) none

  trees_no_float : (default : Decision) (entries : List NamedEntry)
      → items_have_float (items_of (filter_map (named_tree calls default) entries)) ≡ false
  trees_no_float default [] = refl
  trees_no_float default (entry ∷ entries) =
      tree_no_float entry.decision entry.conds (taken_names calls default entry)
      (filter_map (named_tree calls default) entries) (trees_no_float default entries)

  whole_no_float : (action : List ℕ) (errno : Option ℕ) (entries architectures : List Data)
      → items_have_float (items_of entries) ≡ false → items_have_float (items_of architectures) ≡ false
      → has_float (whole_with action errno entries architectures) ≡ false
  unfolding serde_json_on_literals
  whole_no_float action None entries [] none no_texts = rw none refl
  whole_no_float action None entries (d ∷ ds) none no_texts = rw (none, no_texts) refl
  whole_no_float action (Some e) entries [] none no_texts = rw none refl
  whole_no_float action (Some e) entries (d ∷ ds) none no_texts = rw (none, no_texts) refl

  pub no_float : (default : Decision) (architectures : List (List ℕ)) (entries : List NamedEntry)
      → has_float (named_profile_tree calls default architectures entries) ≡ false
  unfolding named_profile_tree
  no_float default architectures entries =
      whole_no_float (action_name default) (errno_of default) (filter_map (named_tree calls default) entries)
      (map string architectures) (trees_no_float default entries) (names_no_float architectures)

  -- it does not nest deep
  tree_shallow : (decision : Decision) (conds : List Cond) (names : List (List ℕ)) (rest : List Data)
      → items_depth (items_of rest) ≤ 3 → items_depth
      (items_of (cons_option (tree_if decision conds names) rest)) ≤ 3
  tree_shallow decision conds [] rest low = low
  tree_shallow decision conds (name ∷ names) rest low =
      omega (
        arith,
        entry_shallow (action_name decision) (errno_of decision) (map cond_tree conds)
            (map string (name ∷ names)) (conds_shallow conds) (names_shallow (name ∷ names)),
        low,
      )

  trees_shallow : (default : Decision) (entries : List NamedEntry)
      → items_depth (items_of (filter_map (named_tree calls default) entries)) ≤ 3
  trees_shallow default [] = omega arith
  trees_shallow default (entry ∷ entries) =
      tree_shallow entry.decision entry.conds (taken_names calls default entry)
      (filter_map (named_tree calls default) entries) (trees_shallow default entries)

  whole_shallow : (action : List ℕ) (errno : Option ℕ) (entries architectures : List Data)
      → items_depth (items_of entries) ≤ 3 → items_depth (items_of architectures) ≤ 0
      → depth (whole_with action errno entries architectures) ≤ 5
  unfolding serde_json_on_literals
  whole_shallow action None entries [] low texts_low = omega arith
  whole_shallow action None entries (d ∷ ds) low texts_low = omega arith
  whole_shallow action (Some e) entries [] low texts_low = omega arith
  whole_shallow action (Some e) entries (d ∷ ds) low texts_low = omega arith

  shallow : (default : Decision) (architectures : List (List ℕ)) (entries : List NamedEntry)
      → depth (named_profile_tree calls default architectures entries) ≤ max_depth
  unfolding named_profile_tree
  shallow default architectures entries =
      omega (
        arith,
        whole_shallow (action_name default) (errno_of default)
            (filter_map (named_tree calls default) entries) (map string architectures) (trees_shallow default entries)
            (names_shallow architectures),
      )

  pub reads : (default : Decision) (architectures : List (List ℕ)) (entries : List NamedEntry) (tree : Data)
      (bytes : List ℕ) → tree ≡ named_profile_tree calls default architectures entries
      → AllByRecursion FitsNamed entries → FitsDecision default
      → IsUtf8 bytes → (depth tree ≤ max_depth → read bytes ≡ Some tree) → length bytes ≤ MAX_PROFILE_BYTES
      → ReadsProfileWith calls bytes (named_profile calls default entries)
  reads default architectures entries tree bytes is fits fits_default utf8 back short =
      let levels : depth tree ≤ max_depth = rw is (shallow default architectures entries) in
      record {
        short = short;
        tree = tree;
        is = told bytes tree utf8 (back levels);
        says = subst (λ t. IsProfile calls t (named_profile calls default entries)) (sym is)
            (profile_is default architectures entries fits fits_default);
      }
