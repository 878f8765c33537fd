-- Scripts as JSON trees, this project's own format: docs/SEMANTICS.md, "Scripts". Which tree is which script,
-- field by field, in no order of reading.
use Rattle.std.specs.Prelude.{◌≡◌, ◌⊎◌, ℕ, ◌<◌, ◌≤◌, List, [], ◌∷◌, length, codes, slice_index, nat_le}
use Rattle.std.specs.Prelude.{if◌then◌else◌, IsTrue, Option, Some, None, unwrap_or, option_and_then}
use Rattle.std.specs.List.{AllByRecursion, list_all}
use Rattle.serde_json.specs.Data.{Data}
use Rattle.serde_json.specs.Find.{get}
use Rattle.json_tree.specs.Tree.{tree_of, each, member, list, object, text, whole, wholes, word}
use Rattle.json_tree.specs.Reading.{HasField, MayHaveField, Both}
use Rattle.bpf_code.specs.declared.insn.Insn.{Insn}
use Rattle.bpf_code.specs.Code.{Fits, Spells}
use Rattle.bpf_verify.specs.Sound.{IsSound}
use Rattle.sys_table.specs.SysTable.{number_in}
use Rattle.sys_table.specs.declared.calls.CallTable.{CallTable}
use Rattle.sys_table.specs.declared.calls.CallTable.TheVariants.{Linux5_8}
use Rattle.call_data.specs.declared.sys_call.SysCall.{SysCall}
use Rattle.script.specs.declared.scripts.Step.{Step}
use Rattle.script.specs.declared.scripts.Step.TheVariants.{Call, Exit, ExitByAttempt, Install}
use Rattle.script.specs.declared.scripts.TheConstants.{MAX_STEPS}
use Rattle.script.specs.declared.fields.CallFields.{CallFields}
use Rattle.script.specs.declared.install.Row.{Row}
use Rattle.call_data.specs.declared.sys_call.TheConstants.{NATIVE_ARCH}

-- a code: a whole number up to 255
unfoldable pub code : Data → Option ℕ
code tree = option_and_then (λ n. if nat_le n 255 then Some n else None) (whole tree)

-- a call is a number, or the name of a known call
abbrev pub IsCall : CallTable → Data → ℕ → Type 0
IsCall calls found nr = (word found ≡ Some nr) ⊎ ((name : List ℕ) × (text found ≡ Some name)
    × (number_in calls name ≡ Some nr))

-- six arguments: the given ones, and 0 for the rest
abbrev pub six : List ℕ → List ℕ
six given = slice_index given 0 ∷ slice_index given 1 ∷ slice_index given 2 ∷ slice_index given 3
    ∷ slice_index given 4 ∷ slice_index given 5 ∷ []

pub record HasArgs (tree : Data) (args : List ℕ) : Type 0 where
  pub given : Option (List ℕ)
  pub there : MayHaveField wholes (codes "args") tree given
  pub few : length (unwrap_or given []) ≤ 6
  pub is : args ≡ six (unwrap_or given [])

pub record HasArch (tree : Data) (arch : ℕ) : Type 0 where
  pub given : Option ℕ
  pub there : MayHaveField word (codes "arch") tree given
  pub is : arch ≡ unwrap_or given NATIVE_ARCH

pub record HasIp (tree : Data) (ip : ℕ) : Type 0 where
  pub given : Option ℕ
  pub there : MayHaveField whole (codes "ip") tree given
  pub is : ip ≡ unwrap_or given 0

-- the fields beside a call; without a call they have no effect, but must have the right type
pub record HasCallFields (tree : Data) (fields : CallFields) : Type 0 where
  pub args : HasArgs tree fields.args
  pub arch : HasArch tree fields.arch
  pub ip : HasIp tree fields.ip
  pub on_error : MayHaveField code (codes "onError") tree fields.on_error

abbrev pub row_in : List ℕ → Option Row
row_in (code ∷ jt ∷ jf ∷ k ∷ []) = Some (record { code = code; jt = jt; jf = jf; k = k })
row_in _ = None

-- a list of four whole numbers: a code, jt, jf and k
unfoldable pub row : Data → Option Row
row tree = option_and_then row_in (wholes tree)

-- a list of such lists
unfoldable pub rows : Data → Option (List Row)
rows tree = option_and_then (each row) (list tree)

-- the numbers are an instruction's, and fit its fields
pub record IsSpelled (row : Row) (insn : Insn) : Type 0 where
  pub spells : Spells insn row.code row.jt row.jf row.k
  pub fits : Fits insn

-- the rows are a filter, instruction by instruction, and it is sound
pub record SpellsFilter (rows : List Row) (filter : List Insn) : Type 0 where
  pub each : Both IsSpelled rows filter
  pub sound : IsSound filter

pub record IsCallStep (calls : CallTable) (tree : Data) (call : SysCall) (on_error : Option ℕ) : Type 0 where
  pub no_exit : member (codes "exit") tree ≡ None
  pub no_exit_by_attempt : member (codes "exitByAttempt") tree ≡ None
  pub no_install : member (codes "install") tree ≡ None
  pub named : Data
  pub there : get (codes "call") tree ≡ Some named
  pub number : IsCall calls named call.nr
  pub fields : HasCallFields tree (record {
    args = call.args;
    arch = call.arch;
    ip = call.ip;
    on_error =
        on_error;
  })

pub record IsExitStep (tree : Data) (ends : ℕ) : Type 0 where
  pub no_call : member (codes "call") tree ≡ None
  pub no_exit_by_attempt : member (codes "exitByAttempt") tree ≡ None
  pub no_install : member (codes "install") tree ≡ None
  pub beside : CallFields
  pub fields : HasCallFields tree beside
  pub exit : HasField code (codes "exit") tree ends

pub record IsExitByAttemptStep (tree : Data) (ends : List ℕ) : Type 0 where
  pub no_call : member (codes "call") tree ≡ None
  pub no_exit : member (codes "exit") tree ≡ None
  pub no_install : member (codes "install") tree ≡ None
  pub beside : CallFields
  pub fields : HasCallFields tree beside
  pub numbers : HasField wholes (codes "exitByAttempt") tree ends
  pub some : 0 < length ends
  pub small : IsTrue (list_all (λ n. nat_le n 255) ends)

pub record IsInstallStep (tree : Data) (filter : List Insn) (on_error : Option ℕ) : Type 0 where
  pub no_call : member (codes "call") tree ≡ None
  pub no_exit : member (codes "exit") tree ≡ None
  pub no_exit_by_attempt : member (codes "exitByAttempt") tree ≡ None
  pub beside : CallFields
  pub fields : HasCallFields tree beside
  pub ends : on_error ≡ beside.on_error
  pub numbers : List Row
  pub there : HasField rows (codes "install") tree numbers
  pub spelled : SpellsFilter numbers filter

abbrev pub Says : CallTable → Data → Step → Type 0
Says calls tree (Call call on_error) = IsCallStep calls tree call on_error
Says calls tree (Exit ends) = IsExitStep tree ends
Says calls tree (ExitByAttempt ends) = IsExitByAttemptStep tree ends
Says calls tree (Install filter on_error) = IsInstallStep tree filter on_error

abbrev pub IsStep : CallTable → Data → Step → Type 0
IsStep calls tree step = (object tree ≡ Some tree) × Says calls tree step

pub record IsScript (calls : CallTable) (tree : Data) (steps : List Step) : Type 0 where
  pub an_object : object tree ≡ Some tree
  pub items : List Data
  pub there : HasField list (codes "steps") tree items
  pub few : length items ≤ MAX_STEPS
  pub each : Both (IsStep calls) items steps

-- what a step installs is sound
abbrev pub IsSoundStep : Step → Type 0
IsSoundStep (Install filter on_error) = IsSound filter
IsSoundStep _ = Unit {0}

abbrev pub HasSoundFilters : List Step → Type 0
HasSoundFilters steps = AllByRecursion IsSoundStep steps

-- the text is this script, if these are the known calls
abbrev pub ReadsScriptWith : CallTable → List ℕ → List Step → Type 0
ReadsScriptWith calls bytes steps = (tree : Data) × (tree_of bytes ≡ Some tree) × IsScript calls tree steps

-- the same with the calls of Linux 5.8
abbrev pub ReadsScript : List ℕ → List Step → Type 0
ReadsScript = ReadsScriptWith Linux5_8
