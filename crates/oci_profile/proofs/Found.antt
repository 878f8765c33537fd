-- What is read is right: each reading that succeeds returns what the tree has.
use Rattle.std.proofs.Common.{◌≡◌, inl, inr, ℕ, ◌<◌, ◌≤◌, List, [], ◌∷◌, ◌++◌, length, codes, cond, eqb, leb}
use Rattle.std.proofs.Common.{ltb, Bool, true, false, Option, Some, None, unwrap_or, Result, Ok, Err, refl}
use Rattle.std.proofs.Common.{sym, ap, subst, ◌∙◌, arith}
use Rattle.std.specs.Prelude.{IfOk, filter_map}
use Rattle.std.specs.Bool.{⊤}
use Rattle.std.specs.Str.{bytes_eq}
use Rattle.std.proofs.lemmas.Bool.{eqb-false, ltb-true, lt-ltb, leb-true, leb-false}
use Rattle.std.proofs.lemmas.Slice.Eq.{bytes_eq-Decides}
use Rattle.serde_json.specs.Data.{Data}
use Rattle.json_tree.specs.declared.faults.TextFault.TheVariants.{NotJson}
use Rattle.json_tree.specs.Tree.{list, object, text, text_list, tree_of, whole}
use Rattle.json_tree.specs.Reading.{◌>>=◌, or_else, refuse_if, in_order_after, as_fault, document, HasField}
use Rattle.json_tree.specs.Reading.{MayHaveField, Both}
use Rattle.json_place.specs.declared.fields.FieldFaultAt.{FieldFaultAt}
use Rattle.json_place.specs.Parts.{Member, Item}
use Rattle.json_place.specs.Fields.{required, required_each, optional, optional_each}
use Rattle.json_tree.proofs.Loops.{bind_ok, then_ok}
use Rattle.json_tree.proofs.Fields.{or_else_ok, refuse_if_ok, as_fault_ok}
use Rattle.json_place.proofs.PlacedFields.{required_found, required_each_found, optional_found}
use Rattle.json_place.proofs.PlacedFields.{optional_each_found}
use Rattle.json_tree.proofs.After.{after_found}
use Rattle.json_tree.proofs.Values.{object_same}
use Rattle.action.specs.declared.verdict.TheConstants.{MAX_ERRNO}
use Rattle.sys_table.specs.declared.calls.CallTable.{CallTable}
use Rattle.oci_profile.specs.declared.conditions.Cond.{Cond}
use Rattle.oci_profile.specs.declared.conditions.Op.{Op}
use Rattle.oci_profile.specs.declared.conditions.Op.TheVariants.{NotEqual, Less, LessOrEqual, Equal}
use Rattle.oci_profile.specs.declared.conditions.Op.TheVariants.{GreaterOrEqual, Greater, MaskedEqual}
use Rattle.oci_profile.specs.declared.decision.Decision.{Decision}
use Rattle.oci_profile.specs.declared.decision.Decision.TheVariants.{KillProcess, KillThread, Trap, Errno}
use Rattle.oci_profile.specs.declared.decision.Decision.TheVariants.{Trace, Allow, Log}
use Rattle.oci_profile.specs.declared.faults.ProfileFault.TheVariants.{NotObject, WrongType, Notify}
use Rattle.oci_profile.specs.declared.faults.ProfileFault.TheVariants.{UnknownAction, ErrnoTooLarge}
use Rattle.oci_profile.specs.declared.faults.ProfileFault.TheVariants.{EmptyNames, BadIndex, RepeatedIndex}
use Rattle.oci_profile.specs.declared.faults.ProfileFault.TheVariants.{UnknownOp}
use Rattle.oci_profile.specs.declared.placed.ProfileFaultAt.{ProfileFaultAt}
use Rattle.oci_profile.specs.declared.profile.Entry.{Entry}
use Rattle.oci_profile.specs.declared.profile.Profile.{Profile}
use Rattle.oci_profile.specs.declared.reader.TheConstants.{MAX_PROFILE_BYTES}
use Rattle.oci_profile.specs.Conditions.{AreConds}
use Rattle.oci_profile.specs.Faults.{at, fault_at, fault_here, fault_of_text, fault_within}
use Rattle.oci_profile.specs.Profile.{IsNameOf, IsErrnoOf, HasDecision, IsOpName, IsCond, number_named, rank}
use Rattle.oci_profile.specs.Profile.{IsEntry, HasIgnored, IsProfile, ReadsProfileWith}
use Rattle.oci_profile.specs.Reading.{here, Reads, action_of, with_given, decision_of, op_named, op_of}
use Rattle.oci_profile.specs.Reading.{is_tested, index_of, cond_of, cond_at, conds_of, names_of, known_if}
use Rattle.oci_profile.specs.Reading.{entry_of, entry_at, entries_of, ignored_of, head_of, items_of}
use Rattle.oci_profile.specs.Reading.{default_of, profile_of, short_of}
use Rattle.oci_profile.proofs.CondLists.{AreApart, apart_push, apart_conds}
use Rattle.oci_profile.proofs.Names.{known_when_needed}

here_ok : {A : Type 0} (r : Result A FieldFaultAt) (x : A) → here r ≡ Ok x → r ≡ Ok x
here_ok r x h = as_fault_ok _ r x h

-- the answer of a chain of tests is right if each answer is
one_of : {A E : Type 0} (P : A → Type 0) (test : Bool) (x : A) (others : Result A E) → (test ≡ true → P x)
    → ((y : A) → others ≡ Ok y → P y) → (y : A) → cond test (Ok x) others ≡ Ok y → P y
one_of P true x others here rest y h =
    let same : x ≡ y = cc in
    subst P same (here refl)
one_of P false x others here rest y h = rest y h

none_of : {A E : Type 0} (P : A → Type 0) (test : Bool) (e f : E) (y : A) → cond test (Err e) (Err f) ≡ Ok y
    → P y
none_of P true e f y h = absurd cc
none_of P false e f y h = absurd cc

same_bytes : (name other : List ℕ) → bytes_eq name other ≡ true → name ≡ other
same_bytes name other h = (bytes_eq-Decides name other).0 h

abbrev IsBase : List ℕ → Decision → Type 0
IsBase name decision = IsNameOf decision name × IsErrnoOf decision None

action_found : (name : List ℕ) (decision : Decision) → action_of name ≡ Ok decision → IsBase name decision
unfolding action_of
action_found name decision h =
    let one : 1 ≤ MAX_ERRNO = omega arith in
    one_of (IsBase name) (bytes_eq name (codes "SCMP_ACT_KILL")) KillThread _
    (λ e. (inr (same_bytes _ _ e), refl))
    (one_of (IsBase name) (bytes_eq name (codes "SCMP_ACT_KILL_PROCESS")) KillProcess _
    (λ e. (same_bytes _ _ e, refl))
    (one_of (IsBase name) (bytes_eq name (codes "SCMP_ACT_KILL_THREAD")) KillThread _
    (λ e. (inl (same_bytes _ _ e), refl))
    (one_of (IsBase name) (bytes_eq name (codes "SCMP_ACT_TRAP")) Trap _ (λ e. (same_bytes _ _ e, refl))
    (one_of (IsBase name) (bytes_eq name (codes "SCMP_ACT_ERRNO")) (Errno 1) _
    (λ e. (same_bytes _ _ e, (refl, one)))
    (one_of (IsBase name) (bytes_eq name (codes "SCMP_ACT_TRACE")) (Trace 1) _
    (λ e. (same_bytes _ _ e, (refl, omega arith)))
    (one_of (IsBase name) (bytes_eq name (codes "SCMP_ACT_ALLOW")) Allow _ (λ e. (same_bytes _ _ e, refl))
    (one_of (IsBase name) (bytes_eq name (codes "SCMP_ACT_LOG")) Log _ (λ e. (same_bytes _ _ e, refl))
    (none_of (IsBase name) (bytes_eq name (codes "SCMP_ACT_NOTIFY")) Notify UnknownAction)))))))) decision h

small_errno : (small : Bool) (make : ℕ → Decision) (given : ℕ) (decision : Decision)
    → cond small (Ok (make given)) (Err ErrnoTooLarge) ≡ Ok decision → (small ≡ true)
    × (decision ≡ make given)
small_errno true make given decision h = (refl, cc)
small_errno false make given decision h = absurd cc

abbrev IsGiven : List ℕ → Option ℕ → Decision → Type 0
IsGiven name given decision = IsNameOf decision name × IsErrnoOf decision given

given_found : (name : List ℕ) (base decision : Decision) (given : Option ℕ) → IsBase name base
    → with_given base given ≡ Ok decision → IsGiven name given decision
given_found name base decision None is h =
    let same : base ≡ decision = cc in
    subst (IsGiven name None) same is
given_found name (Errno _) decision (Some given) is h =
    let small = small_errno (leb given MAX_ERRNO) Errno given decision h in
    subst (IsGiven name (Some given)) (sym small.1) (is.0, (refl, leb-true given MAX_ERRNO small.0))
given_found name (Trace _) decision (Some given) is h =
    let small = small_errno (ltb given 65536) Trace given decision h in
    subst (IsGiven name (Some given)) (sym small.1) (is.0, (refl, ltb-true given 65536 small.0))
given_found name KillProcess decision (Some given) is h = absurd cc
given_found name KillThread decision (Some given) is h = absurd cc
given_found name Trap decision (Some given) is h = absurd cc
given_found name Allow decision (Some given) is h = absurd cc
given_found name Log decision (Some given) is h = absurd cc

decision_found : (action_key errno_key : List ℕ) (tree : Data) (decision : Decision)
    → decision_of action_key errno_key tree ≡ Ok decision → HasDecision action_key errno_key tree decision
unfolding decision_of
decision_found action_key errno_key tree decision h =
    let name = bind_ok (here (required text action_key tree)) _ _ h in
    let base = bind_ok (at action_key (action_of name.0)) _ _ name.2 in
    let given = bind_ok (here (optional whole errno_key tree)) _ _ base.2 in
    let base_is = action_found name.0 base.0
    (as_fault_ok (fault_at action_key) (action_of name.0) base.0 base.1) in
    let is = given_found name.0 base.0 decision given.0 base_is
    (as_fault_ok (fault_at errno_key) (with_given base.0 given.0) decision given.2) in
    record {
      name = name.0;
      there = required_found text action_key tree name.0
          (here_ok (required text action_key tree) name.0 name.1);
      named = is.0;
      given = given.0;
      errno = optional_found whole errno_key tree given.0
          (here_ok (optional whole errno_key tree) given.0 given.1);
      errno_is = is.1;
    }

op_found : (name : List ℕ) (op : Op) → op_named name ≡ Ok op → IsOpName op name
unfolding op_named
op_found name op h =
    one_of (λ (o : Op). IsOpName o name) (bytes_eq name (codes "SCMP_CMP_NE")) NotEqual _ (same_bytes _ _)
    (one_of (λ (o : Op). IsOpName o name) (bytes_eq name (codes "SCMP_CMP_LT")) Less _ (same_bytes _ _)
    (one_of (λ (o : Op). IsOpName o name) (bytes_eq name (codes "SCMP_CMP_LE")) LessOrEqual _ (same_bytes _ _)
    (one_of (λ (o : Op). IsOpName o name) (bytes_eq name (codes "SCMP_CMP_EQ")) Equal _ (same_bytes _ _)
    (one_of (λ (o : Op). IsOpName o name) (bytes_eq name (codes "SCMP_CMP_GE")) GreaterOrEqual _
    (same_bytes _ _)
    (one_of (λ (o : Op). IsOpName o name) (bytes_eq name (codes "SCMP_CMP_GT")) Greater _ (same_bytes _ _)
    (one_of (λ (o : Op). IsOpName o name) (bytes_eq name (codes "SCMP_CMP_MASKED_EQ")) MaskedEqual
    (Err UnknownOp) (same_bytes _ _) (λ y impossible. absurd cc))))))) op h

index_found : (done : List Cond) (tree : Data) (index : ℕ) → index_of done tree ≡ Ok index
    → HasField whole (codes "index") tree index × (index < 6) × (is_tested done index ≡ false)
unfolding index_of
index_found done tree index h =
    let given = bind_ok (here (required whole (codes "index") tree)) _ _ h in
    let small = then_ok (refuse_if (leb 6 given.0) (fault_at (codes "index") BadIndex)) _ _ given.2 in
    let new = then_ok (refuse_if (is_tested done given.0) (fault_at (codes "index") RepeatedIndex)) _ _
    small.2 in
    let is : given.0 ≡ index = cc in
    let below : given.0 < 6 = leb-false 6 given.0 (refuse_if_ok (leb 6 given.0) _ small.0 small.1) in
    subst (λ i. HasField whole (codes "index") tree i × (i < 6) × (is_tested done i ≡ false)) is (
      required_found whole (codes "index") tree given.0
          (here_ok (required whole (codes "index") tree) given.0 given.1),
      below,
      refuse_if_ok (is_tested done given.0) _ new.0 new.1,
    )

abbrev IsNewCond : List Cond → Data → Cond → Type 0
IsNewCond done item cond = IsCond item cond × (cond.index < 6) × (is_tested done cond.index ≡ false)

cond_found : (done : List Cond) (item : Data) (cond : Cond) → cond_of done item ≡ Ok cond
    → IsNewCond done item cond
unfolding cond_of op_of
cond_found done item cond h =
    let tree = bind_ok (or_else (fault_here WrongType) (object item)) _ _ h in
    let is_object : object item ≡ Some tree.0 =
    or_else_ok (fault_here WrongType) (object item) tree.0 tree.1 in
    let same : tree.0 ≡ item = sym (object_same item tree.0 is_object) in
    let index = bind_ok (index_of done tree.0) _ _ tree.2 in
    let value = bind_ok (here (required whole (codes "value") tree.0)) _ _ index.2 in
    let two = bind_ok (here (optional whole (codes "valueTwo") tree.0)) _ _ value.2 in
    let op = bind_ok (op_of tree.0) _ _ two.2 in
    let name = bind_ok (here (required text (codes "op") tree.0)) _ _ op.1 in
    let index_is = index_found done tree.0 index.0 index.1 in
    let is : record { index = index.0; op = op.0; value = value.0; value_two = unwrap_or two.0 0 } ≡ cond =
    cc in
    subst (IsNewCond done item) is (
      subst (λ t. IsCond t (record {
        index = index.0;
        op = op.0;
        value = value.0;
        value_two =
            unwrap_or two.0 0;
      })) same (record {
        an_object = ap object same ∙ is_object;
        index = index_is.0;
        value = required_found whole (codes "value") tree.0 value.0
            (here_ok (required whole (codes "value") tree.0) value.0 value.1);
        given = two.0;
        two = optional_found whole (codes "valueTwo") tree.0 two.0
            (here_ok (optional whole (codes "valueTwo") tree.0) two.0 two.1);
        two_is = refl;
        name = name.0;
        op = required_found text (codes "op") tree.0 name.0
            (here_ok (required text (codes "op") tree.0) name.0 name.1);
        named = op_found name.0 op.0 (as_fault_ok (fault_at (codes "op")) (op_named name.0) op.0 name.2);
      }),
      index_is.1,
      index_is.2,
    )

cond_kept : (done : List Cond) (item : Data) (cond : Cond) → AreApart done → cond_at done item ≡ Ok cond
    → AreApart (done ++ cond ∷ []) × IsCond item cond
cond_kept done item cond apart h =
    let is = cond_found done item cond (as_fault_ok (fault_within (Item (length done)))
    (cond_of done item) cond h) in
    (apart_push done cond apart is.1 is.2, is.0)

none_apart : AreApart []
none_apart = (λ k d lt. absurd (omega arith), λ i j d lt in_range. absurd (omega arith))

each_cond_found : (items : List Data) (conds : List Cond) → in_order_after cond_at [] items ≡ Ok conds
    → AreConds conds × Both IsCond items conds
each_cond_found items conds h =
    let all = after_found cond_at AreApart IsCond cond_kept [] items conds none_apart h in
    (apart_conds conds all.0, subst (Both IsCond items) (sym all.1.1) all.1.2)

pub conds_fit : (items : List Data) (conds : List Cond) → in_order_after cond_at [] items ≡ Ok conds
    → AreConds conds
conds_fit items conds h = (each_cond_found items conds h).0

conds_found : (tree : Data) (conds : List Cond) → conds_of tree ≡ Ok conds → (args : Option (List Data))
    × MayHaveField list (codes "args") tree args × Both IsCond (unwrap_or args []) conds × AreConds conds
unfolding conds_of
conds_found tree conds h =
    let args = bind_ok (here (optional list (codes "args") tree)) _ _ h in
    let all = each_cond_found (unwrap_or args.0 []) conds
    (as_fault_ok (fault_within (Member (codes "args"))) (in_order_after cond_at [] (unwrap_or args.0 []))
    conds args.2) in (
      args.0,
      optional_found list (codes "args") tree args.0
          (here_ok (optional list (codes "args") tree) args.0 args.1),
      all.1,
      all.0,
    )

names_found : (tree : Data) (names : List Data) → names_of tree ≡ Ok names
    → HasField text_list (codes "names") tree names × (0 < length names)
unfolding names_of
names_found tree names h =
    let given = bind_ok (here (required_each text text_list (codes "names") tree)) _ _ h in
    let some = then_ok (refuse_if (eqb (length given.0) 0) (fault_at (codes "names") EmptyNames)) _ _ given.2
    in
    let is : given.0 ≡ names = cc in
    let not_none : length given.0 ≡ 0 → ⊥ =
    eqb-false (length given.0) 0 (refuse_if_ok (eqb (length given.0) 0) _ some.0 some.1) in
    subst (λ ns. HasField text_list (codes "names") tree ns × (0 < length ns)) is (
      required_each_found text text_list (codes "names") tree given.0
          (here_ok (required_each text text_list (codes "names") tree) given.0 given.1),
      omega arith,
    )

ignored_found : (tree : Data) (u : ⊤) → ignored_of tree ≡ Ok u → HasIgnored tree
unfolding ignored_of
ignored_found tree u h =
    let architectures = then_ok (here (optional_each text text_list (codes "architectures") tree)) _ _ h in
    let flags = then_ok (here (optional_each text text_list (codes "flags") tree)) _ _ architectures.2 in
    let path = then_ok (here (optional text (codes "listenerPath") tree)) _ _ flags.2 in
    let metadata = then_ok (here (optional text (codes "listenerMetadata") tree)) _ _ path.2 in
    record {
      architectures = architectures.0;
      architectures_there = optional_each_found text text_list (codes "architectures") tree architectures.0
          (here_ok (optional_each text text_list (codes "architectures") tree) architectures.0
          architectures.1);
      flags = flags.0;
      flags_there = optional_each_found text text_list (codes "flags") tree flags.0
          (here_ok (optional_each text text_list (codes "flags") tree) flags.0 flags.1);
      path = path.0;
      path_there = optional_found text (codes "listenerPath") tree path.0
          (here_ok (optional text (codes "listenerPath") tree) path.0 path.1);
      metadata = metadata.0;
      metadata_there = optional_found text (codes "listenerMetadata") tree metadata.0
          (here_ok (optional text (codes "listenerMetadata") tree) metadata.0 metadata.1);
    }

abbrev HasHead : Data → Decision → Type 0
HasHead tree default = (object tree ≡ Some tree)
    × HasDecision (codes "defaultAction") (codes "defaultErrnoRet") tree default × HasIgnored tree

head_found : (whole_tree : Data) (default : Decision) → head_of whole_tree ≡ Ok default
    → HasHead whole_tree default
unfolding head_of default_of
head_found whole_tree default h =
    let tree = bind_ok (or_else (fault_here NotObject) (object whole_tree)) _ _ h in
    let is_object : object whole_tree ≡ Some tree.0 =
    or_else_ok (fault_here NotObject) (object whole_tree) tree.0 tree.1 in
    let same : tree.0 ≡ whole_tree = sym (object_same whole_tree tree.0 is_object) in
    let decision = bind_ok (decision_of (codes "defaultAction") (codes "defaultErrnoRet") tree.0) _ _ tree.2
    in
    let ignored = then_ok (ignored_of tree.0) _ _ decision.2 in
    let is : decision.0 ≡ default = cc in
    subst (HasHead whole_tree) is (subst (λ t. HasHead t decision.0) same (
      ap object same ∙ is_object,
      decision_found (codes "defaultAction") (codes "defaultErrnoRet") tree.0 decision.0 decision.1,
      ignored_found tree.0 ignored.0 ignored.1,
    ))

module _ (calls : CallTable) where
  pub entry_found : (default : Decision) (item : Data) (entry : Entry) → entry_of calls default item ≡ Ok entry
      → IsEntry calls default item entry
  unfolding entry_of
  entry_found default item entry h =
      let tree = bind_ok (or_else (fault_here WrongType) (object item)) _ _ h in
      let is_object : object item ≡ Some tree.0 =
      or_else_ok (fault_here WrongType) (object item) tree.0 tree.1 in
      let same : tree.0 ≡ item = sym (object_same item tree.0 is_object) in
      let names = bind_ok (names_of tree.0) _ _ tree.2 in
      let decision = bind_ok (decision_of (codes "action") (codes "errnoRet") tree.0) _ _ names.2 in
      let conds = bind_ok (conds_of tree.0) _ _ decision.2 in
      let known = then_ok (known_if calls (ltb (rank decision.0) (rank default)) names.0) _ _ conds.2 in
      let names_are = names_found tree.0 names.0 names.1 in
      let conds_are = conds_found tree.0 conds.0 conds.1 in
      let made : Entry = record {
        numbers = filter_map (number_named calls) names.0;
        decision = decision.0;
        conds =
            conds.0;
      } in
      let is : made ≡ entry = cc in
      subst (IsEntry calls default item) is (subst (λ t. IsEntry calls default t made) same (record {
        an_object = ap object same ∙ is_object;
        names = names.0;
        there = names_are.0;
        some = names_are.1;
        decides = decision_found (codes "action") (codes "errnoRet") tree.0 decision.0 decision.1;
        args = conds_are.0;
        args_there = conds_are.1;
        conds_are = conds_are.2;
        conds_fit = conds_are.3;
        numbers_are = refl;
        known = λ stricter. known_when_needed calls (ltb (rank decision.0) (rank default)) names.0 known.0 known.1
            (lt-ltb (rank decision.0) (rank default) stricter);
      }))

  -- nothing is kept beside what each item is
  entry_kept : (default : Decision) (done : List Entry) (item : Data) (entry : Entry) → ⊤
      → entry_at calls default done item ≡ Ok entry → ⊤ × IsEntry calls default item entry
  entry_kept default done item entry kept h = (
    tt,
    entry_found default item entry (as_fault_ok (fault_within (Item (length done)))
        (entry_of calls default item) entry h),
  )

  pub each_entry_found : (default : Decision) (items : List Data) (entries : List Entry)
      → in_order_after (entry_at calls default) [] items ≡ Ok entries → Both (IsEntry calls default) items entries
  each_entry_found default items entries h =
      let all = after_found (entry_at calls default) (λ done. ⊤) (IsEntry calls default) (entry_kept default)
      [] items entries tt h in
      subst (Both (IsEntry calls default) items) (sym all.1.1) all.1.2

  profile_found : (tree : Data) (profile : Profile) → profile_of calls tree ≡ Ok profile → IsProfile calls tree profile
  unfolding profile_of items_of
  profile_found tree profile h =
      let default = bind_ok (head_of tree) _ _ h in
      let items = bind_ok (here (optional list (codes "syscalls") tree) >>= λ given.
      Ok (unwrap_or given [])) _ _ default.2 in
      let given = bind_ok (here (optional list (codes "syscalls") tree)) _ _ items.1 in
      let entries = bind_ok (entries_of calls default.0 items.0) _ _ items.2 in
      let made : Profile = record { default = default.0; entries = entries.0 } in
      let is : made ≡ profile = cc in
      let items_are : unwrap_or given.0 [] ≡ items.0 = cc in
      let head = head_found tree default.0 default.1 in
      subst (IsProfile calls tree) is (record {
        an_object = head.0;
        decides = head.1;
        ignored = head.2;
        syscalls = given.0;
        there = optional_found list (codes "syscalls") tree given.0
            (here_ok (optional list (codes "syscalls") tree) given.0 given.1);
        each = each_entry_found default.0 (unwrap_or given.0 []) entries.0
            (as_fault_ok (fault_within (Member (codes "syscalls")))
            (in_order_after (entry_at calls default.0) [] (unwrap_or given.0 [])) entries.0
            (ap (entries_of calls default.0) items_are ∙ entries.1));
      })

  short_found : (bytes : List ℕ) (profile : Profile) → length bytes ≤ MAX_PROFILE_BYTES
      → short_of calls bytes ≡ Ok profile → ReadsProfileWith calls bytes profile
  unfolding short_of document
  short_found bytes profile short h =
      let tree = bind_ok (as_fault (λ fault. fault_here (fault_of_text fault)) (document bytes)) _ _ h in
      record {
        short = short;
        tree = tree.0;
        is = or_else_ok NotJson (tree_of bytes) tree.0
            (as_fault_ok (λ fault. fault_here (fault_of_text fault)) (document bytes) tree.0 tree.1);
        says = profile_found tree.0 profile tree.2;
      }

  -- the returned profile is the text's profile
  pub found : (bytes : List ℕ) (result : Result Profile ProfileFaultAt) → length bytes ≤ MAX_PROFILE_BYTES
      → Reads (λ profile. profile) result (short_of calls bytes) → IfOk result (ReadsProfileWith calls bytes)
  found bytes (Ok profile) short h = short_found bytes profile short h
  found bytes (Err fault) short h = tt
