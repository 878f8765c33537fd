-- Which fault of a text is found first: docs/SEMANTICS.md, "Scripts", has the order. Each definition is the
-- reading of a tree, with its faults in that order, each with its place in the tree.
use Rattle.std.specs.Prelude.{◌≡◌, ◌≢◌, ℕ, ◌==◌, List, [], ◌∷◌, ◌++◌, length, map, position, slice_get, codes}
use Rattle.std.specs.Prelude.{Bool, true, false, not, is_some, nat_lt, nat_le, if◌then◌else◌, Option, Some}
use Rattle.std.specs.Prelude.{None, unwrap_or, option_and_then, Result, Ok, Err}
use Rattle.bpf_code.specs.declared.insn.Insn.{Insn}
use Rattle.serde_json.specs.View.{view}
use Rattle.serde_json.specs.declared.value.Value.{Value}
use Rattle.serde_json.specs.Data.{Data}
use Rattle.json_tree.specs.Tree.{each, has, list, object, text, value, whole, wholes, word}
use Rattle.json_tree.specs.Reading.{◌>>=◌, ◌>>◌, refuse_if, or_else, if_there, in_order_after, as_fault}
use Rattle.json_tree.specs.Reading.{as_read, document as document_of, Both}
use Rattle.json_place.specs.declared.fields.FieldFaultAt.{FieldFaultAt}
use Rattle.json_place.specs.Parts.{Member}
use Rattle.json_place.specs.Fields.{GivesAt, item_place, required, required_each, optional}
use Rattle.sys_table.specs.SysTable.{number_in}
use Rattle.sys_table.specs.declared.calls.CallTable.{CallTable}
use Rattle.sys_table.specs.declared.calls.CallTable.TheVariants.{Linux5_8}
use Rattle.script.specs.declared.faults.ScriptFault.{ScriptFault}
use Rattle.script.specs.declared.faults.ScriptFault.TheVariants.{Missing, WrongType, UnknownCall, TooMany}
use Rattle.script.specs.declared.faults.ScriptFault.TheVariants.{BadCode, BadFilter, Memory}
use Rattle.script.specs.declared.placed.ScriptFaultAt.{ScriptFaultAt}
use Rattle.script.specs.declared.scripts.Step.{Step}
use Rattle.script.specs.declared.scripts.Step.TheVariants.{Call, Exit, ExitByAttempt, Install}
use Rattle.script.specs.declared.scripts.TheConstants.{MAX_STEPS}
use Rattle.script.specs.declared.fields.CallFields.{CallFields}
use Rattle.call_data.specs.declared.sys_call.TheConstants.{NATIVE_ARCH}
use Rattle.script.specs.declared.reader.StepKind.{StepKind}
use Rattle.script.specs.declared.reader.StepKind.TheVariants as kind
use Rattle.script.specs.declared.install.Row.{Row}
use Rattle.script.specs.Faults.{at, fault_at, fault_here, fault_of_field_at, fault_of_item, fault_of_step}
use Rattle.script.specs.Faults.{fault_of_text, under}
use Rattle.script.specs.Script.{row, SpellsFilter, IsStep}

abbrev pub here : {A : Type 0} → Result A FieldFaultAt → Result A ScriptFaultAt
here r = as_fault fault_of_field_at r

-- a call returns this reading, or memory ran out
abbrev pub Reads : {X Y : Type 0} → (X → Y) → Result X ScriptFaultAt → Result Y ScriptFaultAt → Type 0
Reads view result reading = GivesAt (λ found. found.fault) Memory view result reading

unfoldable pub code_of : ℕ → Result ℕ ScriptFault
code_of n = if nat_le n 255 then Ok n else Err BadCode

-- a text is the name of a known call, and anything else must be a number
abbrev pub number_of : CallTable → Option (List ℕ) → Option ℕ → Result ℕ ScriptFault
number_of calls (Some name) number = or_else UnknownCall (number_in calls name)
number_of calls None number = or_else WrongType number

unfoldable pub call_of : CallTable → Data → Result ℕ ScriptFaultAt
call_of calls tree = do
  named ← here (required value (codes "call") tree)
  at (codes "call") (number_of calls (text named) (word named))

-- an argument that is not given is 0
abbrev pub given_argument : ℕ → Option Data → Result ℕ ScriptFaultAt
given_argument index None = Ok 0
given_argument index (Some item) = or_else (fault_of_item index WrongType) (whole item)

abbrev pub argument_of : List Data → ℕ → Result ℕ ScriptFaultAt
argument_of items index = given_argument index (slice_get items index)

unfoldable pub six_of : List Data → Result (List ℕ) ScriptFaultAt
six_of items = do
  refuse_if (nat_lt 6 (length items)) (fault_here WrongType)
  first ← argument_of items 0
  second ← argument_of items 1
  third ← argument_of items 2
  fourth ← argument_of items 3
  fifth ← argument_of items 4
  sixth ← argument_of items 5
  Ok (first ∷ second ∷ third ∷ fourth ∷ fifth ∷ sixth ∷ [])

unfoldable pub args_of : Data → Result (List ℕ) ScriptFaultAt
args_of tree = do
  items ← here (optional list (codes "args") tree)
  under (Member (codes "args")) (six_of (unwrap_or items []))

unfoldable pub arch_of : Data → Result ℕ ScriptFaultAt
arch_of tree = do
  given ← here (optional word (codes "arch") tree)
  Ok (unwrap_or given NATIVE_ARCH)

unfoldable pub ip_of : Data → Result ℕ ScriptFaultAt
ip_of tree = do
  given ← here (optional whole (codes "ip") tree)
  Ok (unwrap_or given 0)

unfoldable pub on_error_of : Data → Result (Option ℕ) ScriptFaultAt
on_error_of tree = do
  given ← here (optional whole (codes "onError") tree)
  at (codes "onError") (if_there code_of given)

unfoldable pub call_fields_of : Data → Result CallFields ScriptFaultAt
call_fields_of tree = do
  args ← args_of tree
  arch ← arch_of tree
  ip ← ip_of tree
  on_error ← on_error_of tree
  Ok (record { args = args; arch = arch; ip = ip; on_error = on_error })

unfoldable pub exit_of : Data → Result ℕ ScriptFaultAt
exit_of tree = do
  given ← here (required whole (codes "exit") tree)
  at (codes "exit") (code_of given)

-- as the item after those that were read
abbrev pub code_at : List ℕ → ℕ → Result ℕ ScriptFaultAt
code_at done n = as_fault (fault_of_item (length done)) (code_of n)

-- there is at least one
unfoldable pub codes_of : List ℕ → Result (List ℕ) ScriptFaultAt
codes_of given = do
  refuse_if (length given == 0) (fault_here Missing)
  in_order_after code_at [] given

unfoldable pub exit_by_attempt_of : Data → Result (List ℕ) ScriptFaultAt
exit_by_attempt_of tree = do
  given ← here (required_each whole wholes (codes "exitByAttempt") tree)
  under (Member (codes "exitByAttempt")) (codes_of given)

-- a step is of exactly one of the four kinds
abbrev pub the_kind : Bool → Bool → Bool → Bool → Result StepKind ScriptFaultAt
the_kind false false false false = Err (fault_here Missing)
the_kind true false false false = Ok kind.Call
the_kind false true false false = Ok kind.Exit
the_kind false false true false = Ok kind.ExitByAttempt
the_kind false false false true = Ok kind.Install
the_kind _ _ _ _ = Err (fault_here WrongType)

unfoldable pub kind_of : Data → Result StepKind ScriptFaultAt
kind_of tree = the_kind (has (codes "call") tree) (has (codes "exit") tree) (has (codes "exitByAttempt") tree)
    (has (codes "install") tree)

unfoldable pub call_step_of : CallTable → Data → Result Step ScriptFaultAt
call_step_of calls tree = do
  nr ← call_of calls tree
  fields ← call_fields_of tree
  Ok (Call (record { nr = nr; arch = fields.arch; ip = fields.ip; args = fields.args }) fields.on_error)

unfoldable pub exit_step_of : Data → Result Step ScriptFaultAt
exit_step_of tree = do
  beside ← call_fields_of tree
  ends ← exit_of tree
  Ok (Exit ends)

unfoldable pub exit_by_attempt_step_of : Data → Result Step ScriptFaultAt
exit_by_attempt_step_of tree = do
  beside ← call_fields_of tree
  ends ← exit_by_attempt_of tree
  Ok (ExitByAttempt ends)

-- the first item that is no row
abbrev pub no_row : List Data → ScriptFaultAt
no_row items = record {
  fault = WrongType;
  place =
      item_place (position (λ item. not (is_some (row item))) items);
}

unfoldable pub rows_of : Data → Result (List Row) ScriptFaultAt
rows_of tree = do
  items ← here (required list (codes "install") tree)
  under (Member (codes "install")) (or_else (no_row items) (each row items))

-- a step as read, before its filter is checked
pub data StepText : Type 0 where
  Whole : Step → StepText
  Installs : List Row → Option ℕ → StepText

unfoldable pub install_step_of : Data → Result StepText ScriptFaultAt
install_step_of tree = do
  beside ← call_fields_of tree
  numbers ← rows_of tree
  Ok (Installs numbers beside.on_error)

abbrev pub step_of_kind : CallTable → StepKind → Data → Result StepText ScriptFaultAt
step_of_kind calls kind.Call tree = as_read Whole (call_step_of calls tree)
step_of_kind calls kind.Exit tree = as_read Whole (exit_step_of tree)
step_of_kind calls kind.ExitByAttempt tree = as_read Whole (exit_by_attempt_step_of tree)
step_of_kind calls kind.Install tree = install_step_of tree

unfoldable pub step_of : CallTable → Data → Result StepText ScriptFaultAt
step_of calls item = do
  tree ← or_else (fault_here WrongType) (object item)
  is ← kind_of tree
  step_of_kind calls is tree

-- the step, with its filter checked
abbrev pub IsReadAs : StepText → Step → Type 0
IsReadAs (Whole known) step = step ≡ known
IsReadAs (Installs numbers on_error) step = (filter : List Insn) × SpellsFilter numbers filter
    × (step ≡ Install filter on_error)

-- there is no such filter
abbrev pub IsRefused : StepText → Type 0
IsRefused (Whole known) = ⊥
IsRefused (Installs numbers on_error) = (filter : List Insn) → ¬ SpellsFilter numbers filter

-- the fault of a step, with its place in the step: the one found in reading it, else that of its filter
abbrev pub HasFault : Result StepText ScriptFaultAt → ScriptFaultAt → Type 0
HasFault (Err found) fault = fault ≡ found
HasFault (Ok step) fault = IsRefused step × (fault ≡ fault_at (codes "install") BadFilter)

-- the steps as written there, before any of them is read
unfoldable pub items_of : Data → Result (List Data) ScriptFaultAt
items_of whole_tree = do
  tree ← or_else (fault_here WrongType) (object whole_tree)
  items ← here (required list (codes "steps") tree)
  refuse_if (nat_lt MAX_STEPS (length items)) (fault_at (codes "steps") TooMany)
  Ok items

-- the steps of a text, as written there
unfoldable pub text_items : List ℕ → Result (List Data) ScriptFaultAt
text_items bytes = do
  tree ← as_fault (λ fault. fault_here (fault_of_text fault)) (document_of bytes)
  items_of tree

-- this one has the fault, and all before it are steps; the place begins with the index of this one
pub record IsFirstOfSteps (calls : CallTable) (items : List Data) (fault : ScriptFaultAt) : Type 0 where
  pub before : List Data
  pub item : Data
  pub behind : List Data
  pub stands : items ≡ before ++ item ∷ behind
  pub steps : List Step
  pub each : Both (IsStep calls) before steps
  pub own : ScriptFaultAt
  pub has : HasFault (step_of calls item) own
  pub is : fault ≡ fault_of_step (length before) own

abbrev pub IsFirstIn : CallTable → Result (List Data) ScriptFaultAt → ScriptFaultAt → Type 0
IsFirstIn calls (Err found) fault = fault ≡ found
IsFirstIn calls (Ok items) fault = IsFirstOfSteps calls items fault

-- the fault of a text that is found first, and its place, if these are the known calls
abbrev pub IsFirstFaultAt : CallTable → List ℕ → ScriptFaultAt → Type 0
IsFirstFaultAt calls bytes found = IsFirstIn calls (text_items bytes) found

-- the first fault without its place, with the calls of Linux 5.8
abbrev pub IsFirstFault : List ℕ → ScriptFault → Type 0
IsFirstFault bytes fault = (found : ScriptFaultAt) × IsFirstFaultAt Linux5_8 bytes found
    × (found.fault ≡ fault)

-- Only private functions cite the rest.

-- a row, number by number
abbrev pub number_at : List Data → ℕ → Option ℕ
number_at items place = option_and_then whole (slice_get items place)

unfoldable pub numbers_of : List Data → Option Row
numbers_of items =
    if length items == 4
    then option_and_then (λ code. option_and_then
    (λ jt. option_and_then (λ jf. option_and_then
    (λ k. Some (record { code = code; jt = jt; jf = jf; k = k })) (number_at items 3))
    (number_at items 2)) (number_at items 1)) (number_at items 0)
    else None

-- the call returns items that are read as these rows
abbrev pub LendsRows : Result (List Value) ScriptFaultAt → Result (List Row) ScriptFaultAt → Type 0
LendsRows (Ok items) reading = (numbers : List Row) × (each row (map view items) ≡ Some numbers)
    × (reading ≡ Ok numbers)
LendsRows (Err fault) reading = reading ≡ Err fault

-- the call returns the step, with its filter checked, memory aside
abbrev pub GivesStep : Result Step ScriptFaultAt → Result StepText ScriptFaultAt → Type 0
GivesStep (Ok step) reading = (text : StepText) × (reading ≡ Ok text) × IsReadAs text step
GivesStep (Err found) reading = found.fault ≢ Memory → HasFault reading found

-- the call returns the steps, memory aside
abbrev pub GivesSteps : CallTable → Result (List Step) ScriptFaultAt → Result (List Data) ScriptFaultAt → Type 0
GivesSteps calls (Ok steps) reading = (items : List Data) × (reading ≡ Ok items)
    × Both (IsStep calls) items steps
GivesSteps calls (Err found) reading = found.fault ≢ Memory → IsFirstIn calls reading found
