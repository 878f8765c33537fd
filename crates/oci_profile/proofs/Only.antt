-- Every profile is read: each reading of its tree succeeds and returns what the tree has.
use Rattle.std.proofs.Common.{◌≡◌, inl, inr, ℕ, ◌<◌, List, [], ◌∷◌, ◌++◌, length, codes, cond, ltb, false}
use Rattle.std.proofs.Common.{Option, Some, None, unwrap_or, Ok, refl, sym, ap, arith}
use Rattle.std.proofs.Math.Dec.{eqb-suc-zero}
use Rattle.std.proofs.lemmas.Bool.{le-leb, lt-leb, lt-ltb, ltb-true}
use Rattle.std.specs.Bool.{⊤}
use Rattle.serde_json.specs.Data.{Data}
use Rattle.json_tree.specs.Tree.{list, text, text_list, whole}
use Rattle.json_tree.specs.Reading.{document, HasField, MayHaveField, Both}
use Rattle.json_place.proofs.PlacedFields.{required_only, required_each_only, optional_only}
use Rattle.json_place.proofs.PlacedFields.{optional_each_only}
use Rattle.json_tree.proofs.After.{after_only}
use Rattle.action.specs.declared.verdict.TheConstants.{MAX_ERRNO}
use Rattle.sys_table.specs.declared.calls.CallTable.{CallTable}
use Rattle.oci_profile.specs.declared.conditions.Cond.{Cond}
use Rattle.oci_profile.specs.declared.conditions.Op.{Op}
use Rattle.oci_profile.specs.declared.conditions.Op.TheVariants.{NotEqual, Less, LessOrEqual, Equal}
use Rattle.oci_profile.specs.declared.conditions.Op.TheVariants.{GreaterOrEqual, Greater, MaskedEqual}
use Rattle.oci_profile.specs.declared.decision.Decision.{Decision}
use Rattle.oci_profile.specs.declared.decision.Decision.TheVariants.{KillProcess, KillThread, Trap, Errno}
use Rattle.oci_profile.specs.declared.decision.Decision.TheVariants.{Trace, Allow, Log}
use Rattle.oci_profile.specs.declared.profile.Entry.{Entry}
use Rattle.oci_profile.specs.declared.profile.Profile.{Profile}
use Rattle.oci_profile.specs.Profile.{IsNameOf, IsErrnoOf, HasDecision, IsOpName, IsCond, rank, IsEntry}
use Rattle.oci_profile.specs.Profile.{HasIgnored, IsProfile, ReadsProfileWith}
use Rattle.oci_profile.specs.Reading.{action_of, with_given, decision_of, op_named, op_of, is_tested}
use Rattle.oci_profile.specs.Reading.{index_of, cond_of, cond_at, conds_of, names_of, entry_of, entry_at}
use Rattle.oci_profile.specs.Reading.{ignored_of, head_of, items_of, default_of, profile_of, short_of}
use Rattle.oci_profile.proofs.CondLists.{AreApart, apart_at}
use Rattle.oci_profile.proofs.Names.{goes_on_where_known}

-- the decision if no errno is given
abbrev base : Decision → Decision
base (Errno errno) = Errno 1
base (Trace message) = Trace 1
base KillProcess = KillProcess
base KillThread = KillThread
base Trap = Trap
base Allow = Allow
base Log = Log

action_only : (decision : Decision) (name : List ℕ) → IsNameOf decision name
    → action_of name ≡ Ok (base decision)
unfolding action_of
action_only KillProcess name h = rw h refl
action_only KillThread name (inl h) = rw h refl
action_only KillThread name (inr h) = rw h refl
action_only Trap name h = rw h refl
action_only (Errno errno) name h = rw h refl
action_only (Trace message) name h = rw h refl
action_only Allow name h = rw h refl
action_only Log name h = rw h refl

given_only : (decision : Decision) (given : Option ℕ) → IsErrnoOf decision given
    → with_given (base decision) given ≡ Ok decision
given_only (Errno errno) None h = ap (λ n. Ok (Errno n)) (sym h.0)
given_only (Errno errno) (Some given) h = let same : given ≡ errno = sym h.0 in
    rw (same, le-leb errno MAX_ERRNO h.1) refl
given_only (Trace message) None h = ap (λ n. Ok (Trace n)) (sym h.0)
given_only (Trace message) (Some given) h = let same : given ≡ message = sym h.0 in
    rw (same, lt-ltb message 65536 h.1) refl
given_only KillProcess given h = rw h refl
given_only KillThread given h = rw h refl
given_only Trap given h = rw h refl
given_only Allow given h = rw h refl
given_only Log given h = rw h refl

decision_only : (action_key errno_key : List ℕ) (tree : Data) (decision : Decision)
    → HasDecision action_key errno_key tree decision → decision_of action_key errno_key tree ≡ Ok decision
unfolding decision_of
decision_only action_key errno_key tree decision h =
    rw (
      required_only text action_key tree h.name h.there,
      action_only decision h.name h.named,
      optional_only whole errno_key tree h.given h.errno,
      given_only decision h.given h.errno_is,
    ) refl

op_named_only : (op : Op) (name : List ℕ) → IsOpName op name → op_named name ≡ Ok op
unfolding op_named
op_named_only NotEqual name h = rw h refl
op_named_only Less name h = rw h refl
op_named_only LessOrEqual name h = rw h refl
op_named_only Equal name h = rw h refl
op_named_only GreaterOrEqual name h = rw h refl
op_named_only Greater name h = rw h refl
op_named_only MaskedEqual name h = rw h refl

op_only : (tree : Data) (op : Op) (name : List ℕ) → HasField text (codes "op") tree name → IsOpName op name
    → op_of tree ≡ Ok op
unfolding op_of
op_only tree op name there named = rw (
  required_only text (codes "op") tree name there,
  op_named_only op name named,
) refl

index_only : (done : List Cond) (tree : Data) (index : ℕ) → HasField whole (codes "index") tree index
    → index < 6 → is_tested done index ≡ false → index_of done tree ≡ Ok index
unfolding index_of
index_only done tree index there small new =
    rw (required_only whole (codes "index") tree index there, lt-leb 6 index small, new) refl

cond_only : (done : List Cond) (item : Data) (cond : Cond) (rest : List Cond) → AreApart (done ++ cond ∷ rest)
    → IsCond item cond → cond_at done item ≡ Ok cond
unfolding cond_of
cond_only done item cond rest apart h =
    let fit = apart_at done cond rest apart in
    rw (
      h.an_object,
      index_only done item cond.index h.index fit.0 fit.1,
      required_only whole (codes "value") item cond.value h.value,
      optional_only whole (codes "valueTwo") item h.given h.two,
      op_only item cond.op h.name h.op h.named,
    ) (ap (λ n. Ok (record { index = cond.index; op = cond.op; value = cond.value; value_two = n }))
    (sym h.two_is))

conds_only : (tree : Data) (args : Option (List Data)) (conds : List Cond)
    → MayHaveField list (codes "args") tree args → Both IsCond (unwrap_or args []) conds → AreApart conds
    → conds_of tree ≡ Ok conds
unfolding conds_of
conds_only tree args conds there each apart =
    rw (optional_only list (codes "args") tree args there)
    (rw (after_only cond_at AreApart IsCond cond_only [] (unwrap_or args []) conds apart each) refl)

names_only : (tree : Data) (names : List Data) → HasField text_list (codes "names") tree names
    → 0 < length names → names_of tree ≡ Ok names
unfolding names_of
names_only tree [] there some = absurd (omega arith)
names_only tree (name ∷ names) there some =
    rw (
      required_each_only text text_list (codes "names") tree (name ∷ names) there,
      eqb-suc-zero (length names),
    ) refl

ignored_only : (tree : Data) → HasIgnored tree → ignored_of tree ≡ Ok tt
unfolding ignored_of
ignored_only tree h =
    rw (
      optional_each_only text text_list (codes "architectures") tree h.architectures h.architectures_there,
      optional_each_only text text_list (codes "flags") tree h.flags h.flags_there,
      optional_only text (codes "listenerPath") tree h.path h.path_there,
      optional_only text (codes "listenerMetadata") tree h.metadata h.metadata_there,
    ) refl

module _ (calls : CallTable) where
  entry_only : (default : Decision) (item : Data) (entry : Entry) → IsEntry calls default item entry
      → entry_of calls default item ≡ Ok entry
  unfolding entry_of
  entry_only default item entry h =
      rw (
        h.an_object,
        names_only item h.names h.there h.some,
        decision_only (codes "action") (codes "errnoRet") item entry.decision h.decides,
        conds_only item h.args entry.conds h.args_there h.conds_are (h.conds_fit.in_range, h.conds_fit.apart),
        goes_on_where_known calls (ltb (rank entry.decision) (rank default)) h.names (λ stricter.
            h.known (ltb-true (rank entry.decision) (rank default) stricter)),
      ) (ap (λ numbers. Ok (record { numbers = numbers; decision = entry.decision; conds = entry.conds }))
      (sym h.numbers_are))

  entry_at_only : (default : Decision) (done : List Entry) (item : Data) (entry : Entry) (rest : List Entry) → ⊤
      → IsEntry calls default item entry → entry_at calls default done item ≡ Ok entry
  entry_at_only default done item entry rest kept h = rw (entry_only default item entry h) refl

  profile_only : (tree : Data) (profile : Profile) → IsProfile calls tree profile → profile_of calls tree ≡ Ok profile
  unfolding profile_of head_of items_of default_of
  profile_only tree profile h =
      rw (
        h.an_object,
        decision_only (codes "defaultAction") (codes "defaultErrnoRet") tree profile.default h.decides,
        ignored_only tree h.ignored,
        optional_only list (codes "syscalls") tree h.syscalls h.there,
        after_only (entry_at calls profile.default) (λ done. ⊤) (IsEntry calls profile.default)
            (entry_at_only profile.default) [] (unwrap_or h.syscalls []) profile.entries tt h.each,
      ) refl

  -- a text's profile is read
  pub only : (bytes : List ℕ) (profile : Profile) → ReadsProfileWith calls bytes profile → short_of calls bytes ≡ Ok profile
  unfolding short_of document
  only bytes profile h = rw h.is (profile_only h.tree profile h.says)
