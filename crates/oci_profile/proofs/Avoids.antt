-- Reading a tree never finds it too large.
use Rattle.std.proofs.Common.{◌≢◌, ℕ, List, [], ◌∷◌, ◌++◌, not, length, codes, cond, eqb, leb, ltb, Bool}
use Rattle.std.proofs.Common.{true, false, Option, Some, None, unwrap_or, Result, Ok, Err}
use Rattle.std.specs.Prelude.{is_some, position}
use Rattle.std.specs.Str.{bytes_eq}
use Rattle.serde_json.specs.Data.{Data}
use Rattle.json_tree.specs.declared.faults.FieldFault.{FieldFault}
use Rattle.json_tree.specs.declared.faults.FieldFault.TheVariants as field
use Rattle.json_tree.specs.declared.faults.TextFault.{TextFault}
use Rattle.json_tree.specs.declared.faults.TextFault.TheVariants as document
use Rattle.json_tree.specs.Tree.{list, object, text, text_list, whole}
use Rattle.json_tree.specs.Reading.{◌>>=◌, ◌>>◌, or_else, refuse_if, in_order_after, as_fault}
use Rattle.json_tree.specs.Reading.{document as document_of}
use Rattle.json_place.specs.declared.fields.FieldFaultAt.{FieldFaultAt}
use Rattle.json_place.specs.Parts.{Part, Member, Item}
use Rattle.json_place.specs.Fields.{required, required_each, optional, optional_each}
use Rattle.action.specs.declared.verdict.TheConstants.{MAX_ERRNO}
use Rattle.sys_table.specs.declared.calls.CallTable.{CallTable}
use Rattle.oci_profile.specs.declared.conditions.Cond.{Cond}
use Rattle.oci_profile.specs.declared.decision.Decision.{Decision}
use Rattle.oci_profile.specs.declared.decision.Decision.TheVariants.{KillProcess, KillThread, Trap, Errno}
use Rattle.oci_profile.specs.declared.decision.Decision.TheVariants.{Trace, Allow, Log}
use Rattle.oci_profile.specs.declared.faults.ProfileFault.{ProfileFault}
use Rattle.oci_profile.specs.declared.faults.ProfileFault.TheVariants.{TooLarge, NotObject, WrongType}
use Rattle.oci_profile.specs.declared.faults.ProfileFault.TheVariants.{EmptyNames, BadIndex, RepeatedIndex}
use Rattle.oci_profile.specs.declared.placed.ProfileFaultAt.{ProfileFaultAt}
use Rattle.oci_profile.specs.Faults.{at, fault_at, fault_here, fault_of_field, fault_of_text, under}
use Rattle.oci_profile.specs.Profile.{number_named, rank}
use Rattle.oci_profile.specs.Reading.{here, action_of, with_given, decision_of, op_named, op_of, is_tested}
use Rattle.oci_profile.specs.Reading.{index_of, cond_of, cond_at, conds_of, names_of, known_if, refuse_at}
use Rattle.oci_profile.specs.Reading.{entry_of, entry_at, ignored_of, head_of, items_of, default_of}
use Rattle.oci_profile.specs.Reading.{profile_of, short_of}

-- a fault alone, and one with its place
abbrev AvoidsPlain : {A : Type 0} → Result A ProfileFault → Type 0
AvoidsPlain (Ok x) = Unit {0}
AvoidsPlain (Err e) = e ≢ TooLarge

abbrev pub Avoids : {A : Type 0} → Result A ProfileFaultAt → Type 0
Avoids (Ok x) = Unit {0}
Avoids (Err e) = e.fault ≢ TooLarge

bind : {A B : Type 0} (r : Result A ProfileFaultAt) (f : A → Result B ProfileFaultAt) → Avoids r
    → ((x : A) → Avoids (f x)) → Avoids (r >>= f)
bind (Ok x) f one rest = rest x
bind (Err e) f one rest = one

next : {A B : Type 0} (r : Result A ProfileFaultAt) (s : Result B ProfileFaultAt) → Avoids r → Avoids s
    → Avoids (r >> s)
next (Ok x) s one rest = rest
next (Err e) s one rest = one

refused : (test : Bool) (e : ProfileFaultAt) → e.fault ≢ TooLarge → Avoids (refuse_if test e)
refused true e h = h
refused false e h = tt

otherwise : {A : Type 0} (e : ProfileFaultAt) (o : Option A) → e.fault ≢ TooLarge → Avoids (or_else e o)
otherwise e None h = h
otherwise e (Some x) h = tt

field_fault : (e : FieldFault) → fault_of_field e ≢ TooLarge
field_fault field.Missing = λ same. cc
field_fault field.WrongType = λ same. cc
field_fault field.Memory = λ same. cc

field_avoids : {A : Type 0} (r : Result A FieldFaultAt) → Avoids (here r)
field_avoids (Ok x) = tt
field_avoids (Err e) = field_fault e.fault

text_avoids : {A : Type 0} (r : Result A TextFault)
    → Avoids (as_fault (λ fault. fault_here (fault_of_text fault)) r)
text_avoids (Ok x) = tt
text_avoids (Err document.NotJson) = λ same. cc
text_avoids (Err document.Memory) = λ same. cc

at_avoids : {A : Type 0} (key : List ℕ) (r : Result A ProfileFault) → AvoidsPlain r → Avoids (at key r)
at_avoids key (Ok x) h = tt
at_avoids key (Err e) h = h

under_avoids : {A : Type 0} (part : Part) (r : Result A ProfileFaultAt) → Avoids r → Avoids (under part r)
under_avoids part (Ok x) h = tt
under_avoids part (Err e) h = h

known_avoids : (calls : CallTable) (needed : Bool) (names : List Data) → Avoids (known_if calls needed names)
known_avoids calls false names = tt
known_avoids calls true names =
    refuse_avoids (position (λ name. not (is_some (number_named calls name))) names)
  where
    refuse_avoids : (index : Option ℕ) → Avoids (refuse_at index)
    refuse_avoids None = tt
    refuse_avoids (Some index) = λ same. cc

test : {A : Type 0} (b : Bool) (r s : Result A ProfileFault) → AvoidsPlain r → AvoidsPlain s
    → AvoidsPlain (cond b r s)
test true r s one other = one
test false r s one other = other

each_after : {A B : Type 0} (f : List B → A → Result B ProfileFaultAt)
    → ((done : List B) (x : A) → Avoids (f done x)) → (done : List B) (xs : List A)
    → Avoids (in_order_after f done xs)
each_after f one done [] = tt
each_after f one done (x ∷ xs) = bind (f done x) _ (one done x) (λ y. each_after f one (done ++ y ∷ []) xs)

action_avoids : (name : List ℕ) → AvoidsPlain (action_of name)
unfolding action_of
action_avoids name =
    test (bytes_eq name (codes "SCMP_ACT_KILL")) _ _ tt
    (test (bytes_eq name (codes "SCMP_ACT_KILL_PROCESS")) _ _ tt
    (test (bytes_eq name (codes "SCMP_ACT_KILL_THREAD")) _ _ tt
    (test (bytes_eq name (codes "SCMP_ACT_TRAP")) _ _ tt
    (test (bytes_eq name (codes "SCMP_ACT_ERRNO")) _ _ tt
    (test (bytes_eq name (codes "SCMP_ACT_TRACE")) _ _ tt
    (test (bytes_eq name (codes "SCMP_ACT_ALLOW")) _ _ tt
    (test (bytes_eq name (codes "SCMP_ACT_LOG")) _ _ tt
    (test (bytes_eq name (codes "SCMP_ACT_NOTIFY")) _ _ (λ same. cc) (λ same. cc)))))))))

given_avoids : (decision : Decision) (given : Option ℕ) → AvoidsPlain (with_given decision given)
given_avoids decision None = tt
given_avoids (Errno errno) (Some given) = test (leb given MAX_ERRNO) _ _ tt (λ same. cc)
given_avoids (Trace message) (Some given) = test (ltb given 65536) _ _ tt (λ same. cc)
given_avoids KillProcess (Some given) = λ same. cc
given_avoids KillThread (Some given) = λ same. cc
given_avoids Trap (Some given) = λ same. cc
given_avoids Allow (Some given) = λ same. cc
given_avoids Log (Some given) = λ same. cc

decision_avoids : (action_key errno_key : List ℕ) (tree : Data)
    → Avoids (decision_of action_key errno_key tree)
unfolding decision_of
decision_avoids action_key errno_key tree =
    bind _ _ (field_avoids (required text action_key tree)) (λ name.
    bind _ _ (at_avoids action_key _ (action_avoids name)) (λ decision.
    bind _ _ (field_avoids (optional whole errno_key tree)) (λ given.
    at_avoids errno_key _ (given_avoids decision given))))

op_named_avoids : (name : List ℕ) → AvoidsPlain (op_named name)
unfolding op_named
op_named_avoids name =
    test (bytes_eq name (codes "SCMP_CMP_NE")) _ _ tt
    (test (bytes_eq name (codes "SCMP_CMP_LT")) _ _ tt
    (test (bytes_eq name (codes "SCMP_CMP_LE")) _ _ tt
    (test (bytes_eq name (codes "SCMP_CMP_EQ")) _ _ tt
    (test (bytes_eq name (codes "SCMP_CMP_GE")) _ _ tt
    (test (bytes_eq name (codes "SCMP_CMP_GT")) _ _ tt
    (test (bytes_eq name (codes "SCMP_CMP_MASKED_EQ")) _ _ tt (λ same. cc)))))))

cond_avoids : (done : List Cond) (item : Data) → Avoids (cond_at done item)
unfolding cond_of index_of op_of
cond_avoids done item =
    under_avoids (Item (length done)) _ (bind _ _
    (otherwise (fault_here WrongType) (object item) (λ same. cc)) (λ tree.
    bind _ _ (bind _ _ (field_avoids (required whole (codes "index") tree)) (λ index.
    next _ _ (refused (leb 6 index) (fault_at (codes "index") BadIndex) (λ same. cc))
    (next _ _ (refused (is_tested done index) (fault_at (codes "index") RepeatedIndex) (λ same. cc)) tt)))
    (λ index.
    bind _ _ (field_avoids (required whole (codes "value") tree)) (λ value.
    bind _ _ (field_avoids (optional whole (codes "valueTwo") tree)) (λ two.
    bind _ _ (bind _ _ (field_avoids (required text (codes "op") tree)) (λ name.
    at_avoids (codes "op") _ (op_named_avoids name))) (λ op. tt))))))

entry_avoids : (calls : CallTable) (default : Decision) (item : Data) → Avoids (entry_of calls default item)
unfolding entry_of names_of conds_of
entry_avoids calls default item =
    bind _ _ (otherwise (fault_here WrongType) (object item) (λ same. cc)) (λ tree.
    bind _ _ (bind _ _ (field_avoids (required_each text text_list (codes "names") tree)) (λ names.
    next _ _ (refused (eqb (length names) 0) (fault_at (codes "names") EmptyNames) (λ same. cc)) tt))
    (λ names.
    bind _ _ (decision_avoids (codes "action") (codes "errnoRet") tree) (λ decision.
    bind _ _ (bind _ _ (field_avoids (optional list (codes "args") tree)) (λ items.
    under_avoids (Member (codes "args")) _ (each_after cond_at cond_avoids [] (unwrap_or items []))))
    (λ conds.
    next _ _ (known_avoids calls (ltb (rank decision) (rank default)) names) tt))))

ignored_avoids : (tree : Data) → Avoids (ignored_of tree)
unfolding ignored_of
ignored_avoids tree =
    next _ _ (field_avoids (optional_each text text_list (codes "architectures") tree))
    (next _ _ (field_avoids (optional_each text text_list (codes "flags") tree))
    (next _ _ (field_avoids (optional text (codes "listenerPath") tree))
    (next _ _ (field_avoids (optional text (codes "listenerMetadata") tree)) tt)))

profile_avoids : (calls : CallTable) (tree : Data) → Avoids (profile_of calls tree)
unfolding profile_of head_of items_of default_of
profile_avoids calls whole_tree =
    bind _ _ (bind _ _ (otherwise (fault_here NotObject) (object whole_tree) (λ same. cc)) (λ tree.
    bind _ _ (decision_avoids (codes "defaultAction") (codes "defaultErrnoRet") tree) (λ default.
    next _ _ (ignored_avoids tree) tt))) (λ default.
    bind _ _ (bind _ _ (field_avoids (optional list (codes "syscalls") whole_tree)) (λ given. tt)) (λ items.
    bind _ _ (under_avoids (Member (codes "syscalls")) _
    (each_after (entry_at calls default) (λ done item.
    under_avoids (Item (length done)) _ (entry_avoids calls default item)) [] items)) (λ entries. tt)))

pub short_avoids : (calls : CallTable) (bytes : List ℕ) → Avoids (short_of calls bytes)
unfolding short_of
short_avoids calls bytes = bind _ _ (text_avoids (document_of bytes)) (profile_avoids calls)
