-- Which fault of a text is found first: docs/SEMANTICS.md, "Profiles", has the order. Each definition is the
-- reading of a tree, with its faults in that order, each with its place in the tree.
use Rattle.std.specs.Prelude.{◌≡◌, ℕ, ◌==◌, ◌^◌, List, [], ◌∷◌, filter_map, length, position, codes, Bool}
use Rattle.std.specs.Prelude.{true, false, not, is_some, nat_lt, nat_le, if◌then◌else◌, Option, Some, None}
use Rattle.std.specs.Prelude.{option_map, unwrap_or, Result, Ok, Err, ⊤}
use Rattle.std.specs.List.{list_any}
use Rattle.std.specs.Result.{result_err}
use Rattle.std.specs.Str.{bytes_eq}
use Rattle.serde_json.specs.Data.{Data}
use Rattle.json_tree.specs.Tree.{list, object, text, text_list, whole}
use Rattle.json_tree.specs.Reading.{◌>>=◌, ◌>>◌, refuse_if, or_else, in_order_after, as_fault}
use Rattle.json_tree.specs.Reading.{document as document_of}
use Rattle.json_place.specs.declared.fields.FieldFaultAt.{FieldFaultAt}
use Rattle.json_place.specs.Parts.{Member, Item}
use Rattle.json_place.specs.Fields.{GivesAt, required, required_each, optional, optional_each}
use Rattle.sys_table.specs.declared.calls.CallTable.{CallTable}
use Rattle.action.specs.declared.verdict.TheConstants.{MAX_ERRNO}
use Rattle.oci_profile.specs.declared.conditions.Cond.{Cond}
use Rattle.oci_profile.specs.declared.conditions.Op.{Op}
use Rattle.oci_profile.specs.declared.conditions.Op.TheVariants.{NotEqual, Less, LessOrEqual, Equal}
use Rattle.oci_profile.specs.declared.conditions.Op.TheVariants.{GreaterOrEqual, Greater, MaskedEqual}
use Rattle.oci_profile.specs.declared.decision.Decision.{Decision}
use Rattle.oci_profile.specs.declared.decision.Decision.TheVariants.{KillProcess, KillThread, Trap, Errno}
use Rattle.oci_profile.specs.declared.decision.Decision.TheVariants.{Trace, Allow, Log}
use Rattle.oci_profile.specs.declared.faults.ProfileFault.{ProfileFault}
use Rattle.oci_profile.specs.declared.faults.ProfileFault.TheVariants.{Memory, TooLarge, NotObject, WrongType}
use Rattle.oci_profile.specs.declared.faults.ProfileFault.TheVariants.{Notify, UnknownAction, ErrnoNotAllowed}
use Rattle.oci_profile.specs.declared.faults.ProfileFault.TheVariants.{ErrnoTooLarge, EmptyNames, BadIndex}
use Rattle.oci_profile.specs.declared.faults.ProfileFault.TheVariants.{RepeatedIndex, UnknownOp, UnknownCall}
use Rattle.oci_profile.specs.declared.placed.ProfileFaultAt.{ProfileFaultAt}
use Rattle.oci_profile.specs.declared.profile.Entry.{Entry}
use Rattle.oci_profile.specs.declared.profile.Profile.{Profile}
use Rattle.oci_profile.specs.declared.reader.TheConstants.{MAX_PROFILE_BYTES}
use Rattle.oci_profile.specs.Faults.{at, fault_at, fault_here, fault_of_field_at, fault_of_text, under}
use Rattle.oci_profile.specs.Profile.{number_named, rank}

abbrev pub here : {A : Type 0} → Result A FieldFaultAt → Result A ProfileFaultAt
here r = as_fault fault_of_field_at r

-- a call returns this reading, or memory ran out
abbrev pub Reads : {X Y : Type 0} → (X → Y) → Result X ProfileFaultAt → Result Y ProfileFaultAt → Type 0
Reads view result reading = GivesAt (λ found. found.fault) Memory view result reading

-- it is refused for this fault, at any place
abbrev pub IsRefusedFor : {X : Type 0} → ProfileFault → Result X ProfileFaultAt → Type 0
IsRefusedFor fault (Ok x) = ⊥
IsRefusedFor fault (Err found) = found.fault ≡ fault

-- the decision of the action with this name, if no errno is given
unfoldable pub action_of : List ℕ → Result Decision ProfileFault
action_of name =
    if bytes_eq name (codes "SCMP_ACT_KILL") then Ok KillThread
    else if bytes_eq name (codes "SCMP_ACT_KILL_PROCESS") then Ok KillProcess
    else if bytes_eq name (codes "SCMP_ACT_KILL_THREAD") then Ok KillThread
    else if bytes_eq name (codes "SCMP_ACT_TRAP") then Ok Trap
    else if bytes_eq name (codes "SCMP_ACT_ERRNO") then Ok (Errno 1)
    else if bytes_eq name (codes "SCMP_ACT_TRACE") then Ok (Trace 1)
    else if bytes_eq name (codes "SCMP_ACT_ALLOW") then Ok Allow
    else if bytes_eq name (codes "SCMP_ACT_LOG") then Ok Log
    else if bytes_eq name (codes "SCMP_ACT_NOTIFY") then Err Notify
    else Err UnknownAction

-- the decision with the given errno
abbrev pub with_errno : Decision → ℕ → Result Decision ProfileFault
with_errno (Errno _) given = if nat_le given MAX_ERRNO then Ok (Errno given) else Err ErrnoTooLarge
with_errno (Trace _) given = if nat_lt given (2 ^ 16) then Ok (Trace given) else Err ErrnoTooLarge
with_errno _ given = Err ErrnoNotAllowed

abbrev pub with_given : Decision → Option ℕ → Result Decision ProfileFault
with_given decision None = Ok decision
with_given decision (Some given) = with_errno decision given

unfoldable pub decision_of : List ℕ → List ℕ → Data → Result Decision ProfileFaultAt
decision_of action_key errno_key tree = do
  name ← here (required text action_key tree)
  decision ← at action_key (action_of name)
  given ← here (optional whole errno_key tree)
  at errno_key (with_given decision given)

unfoldable pub op_named : List ℕ → Result Op ProfileFault
op_named name =
    if bytes_eq name (codes "SCMP_CMP_NE") then Ok NotEqual
    else if bytes_eq name (codes "SCMP_CMP_LT") then Ok Less
    else if bytes_eq name (codes "SCMP_CMP_LE") then Ok LessOrEqual
    else if bytes_eq name (codes "SCMP_CMP_EQ") then Ok Equal
    else if bytes_eq name (codes "SCMP_CMP_GE") then Ok GreaterOrEqual
    else if bytes_eq name (codes "SCMP_CMP_GT") then Ok Greater
    else if bytes_eq name (codes "SCMP_CMP_MASKED_EQ") then Ok MaskedEqual
    else Err UnknownOp

unfoldable pub op_of : Data → Result Op ProfileFaultAt
op_of tree = do
  name ← here (required text (codes "op") tree)
  at (codes "op") (op_named name)

-- whether one of the conditions is on this argument
unfoldable pub is_tested : List Cond → ℕ → Bool
is_tested conds index = list_any (λ cond. cond.index == index) conds

unfoldable pub index_of : List Cond → Data → Result ℕ ProfileFaultAt
index_of done tree = do
  index ← here (required whole (codes "index") tree)
  refuse_if (nat_le 6 index) (fault_at (codes "index") BadIndex)
  refuse_if (is_tested done index) (fault_at (codes "index") RepeatedIndex)
  Ok index

unfoldable pub cond_of : List Cond → Data → Result Cond ProfileFaultAt
cond_of done item = do
  tree ← or_else (fault_here WrongType) (object item)
  index ← index_of done tree
  value ← here (required whole (codes "value") tree)
  two ← here (optional whole (codes "valueTwo") tree)
  op ← op_of tree
  Ok (record { index = index; op = op; value = value; value_two = unwrap_or two 0 })

-- as the item after those that were read
abbrev pub cond_at : List Cond → Data → Result Cond ProfileFaultAt
cond_at done item = under (Item (length done)) (cond_of done item)

unfoldable pub conds_of : Data → Result (List Cond) ProfileFaultAt
conds_of tree = do
  items ← here (optional list (codes "args") tree)
  under (Member (codes "args")) (in_order_after cond_at [] (unwrap_or items []))

unfoldable pub names_of : Data → Result (List Data) ProfileFaultAt
names_of tree = do
  names ← here (required_each text text_list (codes "names") tree)
  refuse_if (length names == 0) (fault_at (codes "names") EmptyNames)
  Ok names

abbrev pub refuse_at : Option ℕ → Result ⊤ ProfileFaultAt
refuse_at None = Ok tt
refuse_at (Some index) = Err (record {
  fault = UnknownCall;
  place =
      Member (codes "names") ∷ Item index ∷ [];
})

-- if each name must be that of a known call, the first that is not is refused
abbrev pub known_if : CallTable → Bool → List Data → Result ⊤ ProfileFaultAt
known_if calls false names = Ok tt
known_if calls true names = refuse_at (position (λ name. not (is_some (number_named calls name))) names)

-- the parts of an entry that are read before its arguments
unfoldable pub all_but_args_of : Data → Result Decision ProfileFaultAt
all_but_args_of item = do
  tree ← or_else (fault_here WrongType) (object item)
  names ← names_of tree
  decision_of (codes "action") (codes "errnoRet") tree

unfoldable pub entry_of : CallTable → Decision → Data → Result Entry ProfileFaultAt
entry_of calls default item = do
  tree ← or_else (fault_here WrongType) (object item)
  names ← names_of tree
  decision ← decision_of (codes "action") (codes "errnoRet") tree
  conds ← conds_of tree
  known_if calls (nat_lt (rank decision) (rank default)) names
  Ok (record { numbers = filter_map (number_named calls) names; decision = decision; conds = conds })

-- as the item after those that were read
abbrev pub entry_at : CallTable → Decision → List Entry → Data → Result Entry ProfileFaultAt
entry_at calls default done item = under (Item (length done)) (entry_of calls default item)

abbrev pub entries_of : CallTable → Decision → List Data → Result (List Entry) ProfileFaultAt
entries_of calls default items = under (Member (codes "syscalls")) (in_order_after (entry_at calls default) [] items)

-- fields without effect must have the right type
unfoldable pub ignored_of : Data → Result ⊤ ProfileFaultAt
ignored_of tree = do
  here (optional_each text text_list (codes "architectures") tree)
  here (optional_each text text_list (codes "flags") tree)
  here (optional text (codes "listenerPath") tree)
  here (optional text (codes "listenerMetadata") tree)
  Ok tt

unfoldable pub default_of : Data → Result Decision ProfileFaultAt
default_of tree = decision_of (codes "defaultAction") (codes "defaultErrnoRet") tree

-- the default, after all fields but the entries are checked
unfoldable pub head_of : Data → Result Decision ProfileFaultAt
head_of whole_tree = do
  tree ← or_else (fault_here NotObject) (object whole_tree)
  default ← default_of tree
  ignored_of tree
  Ok default

-- the entries as written there
unfoldable pub items_of : Data → Result (List Data) ProfileFaultAt
items_of tree = do
  items ← here (optional list (codes "syscalls") tree)
  Ok (unwrap_or items [])

-- the parts that are read before the entries
unfoldable pub all_but_entries_of : Data → Result (List Data) ProfileFaultAt
all_but_entries_of tree = do
  head_of tree
  items_of tree

unfoldable pub profile_of : CallTable → Data → Result Profile ProfileFaultAt
profile_of calls tree = do
  default ← head_of tree
  items ← items_of tree
  entries ← entries_of calls default items
  Ok (record { default = default; entries = entries })

unfoldable pub short_of : CallTable → List ℕ → Result Profile ProfileFaultAt
short_of calls bytes = do
  tree ← as_fault (λ fault. fault_here (fault_of_text fault)) (document_of bytes)
  profile_of calls tree

unfoldable pub reading_of : CallTable → List ℕ → Result Profile ProfileFaultAt
reading_of calls bytes = do
  refuse_if (nat_lt MAX_PROFILE_BYTES (length bytes)) (fault_here TooLarge)
  short_of calls bytes

-- the fault of a text that is found first, and its place, if it has one
abbrev pub first_fault_at : CallTable → List ℕ → Option ProfileFaultAt
first_fault_at calls bytes = result_err (reading_of calls bytes)

-- the first fault without its place
abbrev pub first_fault : CallTable → List ℕ → Option ProfileFault
first_fault calls bytes = option_map (λ found. found.fault) (first_fault_at calls bytes)
