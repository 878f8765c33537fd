-- Profiles as JSON trees: OCI runtime-spec 1.1, config-linux, seccomp. Which tree is which profile, field by
-- field, in no order of reading. This project's own are the limits of the text and of errnos, names of no known
-- call, and that no argument has two conditions in one entry.
use Rattle.std.specs.Prelude.{◌≡◌, ◌⊎◌, ℕ, ◌<◌, ◌≤◌, ◌^◌, List, [], filter_map, length, codes, Bool, is_some}
use Rattle.std.specs.Prelude.{IsTrue, Option, Some, None, unwrap_or, option_and_then}
use Rattle.std.specs.List.{list_all}
use Rattle.serde_json.specs.Data.{Data}
use Rattle.json_tree.specs.Tree.{tree_of, list, object, text, text_list, whole}
use Rattle.json_tree.specs.Reading.{HasField, MayHaveField, Both}
use Rattle.sys_table.specs.SysTable.{number_in}
use Rattle.sys_table.specs.declared.calls.CallTable.{CallTable}
use Rattle.sys_table.specs.declared.calls.CallTable.TheVariants.{Linux5_8}
use Rattle.action.specs.Verdict.{rank_of}
use Rattle.action.specs.declared.verdict.TheConstants.{MAX_ERRNO}
use Rattle.oci_profile.specs.declared.conditions.Cond.{Cond}
use Rattle.oci_profile.specs.declared.conditions.Op.{Op}
use Rattle.oci_profile.specs.declared.conditions.Op.TheVariants.{NotEqual, Less, LessOrEqual, Equal}
use Rattle.oci_profile.specs.declared.conditions.Op.TheVariants.{GreaterOrEqual, Greater, MaskedEqual}
use Rattle.oci_profile.specs.declared.decision.Decision.{Decision}
use Rattle.oci_profile.specs.declared.decision.Decision.TheVariants.{KillProcess, KillThread, Trap, Errno}
use Rattle.oci_profile.specs.declared.decision.Decision.TheVariants.{Trace, Allow, Log}
use Rattle.oci_profile.specs.declared.profile.Entry.{Entry}
use Rattle.oci_profile.specs.declared.profile.Profile.{Profile}
use Rattle.oci_profile.specs.declared.reader.TheConstants.{MAX_PROFILE_BYTES}
use Rattle.oci_profile.specs.Conditions.{AreConds}
use Rattle.oci_profile.specs.Decision.{verdict_of}

-- the name of the decision's action
abbrev pub IsNameOf : Decision → List ℕ → Type 0
IsNameOf KillProcess name = name ≡ codes "SCMP_ACT_KILL_PROCESS"
IsNameOf KillThread name = (name ≡ codes "SCMP_ACT_KILL_THREAD") ⊎ (name ≡ codes "SCMP_ACT_KILL")
IsNameOf Trap name = name ≡ codes "SCMP_ACT_TRAP"
IsNameOf (Errno errno) name = name ≡ codes "SCMP_ACT_ERRNO"
IsNameOf (Trace message) name = name ≡ codes "SCMP_ACT_TRACE"
IsNameOf Allow name = name ≡ codes "SCMP_ACT_ALLOW"
IsNameOf Log name = name ≡ codes "SCMP_ACT_LOG"

-- the errno that is given with it, which only two actions take: 1 (EPERM) if none is given
abbrev pub IsErrnoOf : Decision → Option ℕ → Type 0
IsErrnoOf (Errno errno) given = (errno ≡ unwrap_or given 1) × (errno ≤ MAX_ERRNO)
IsErrnoOf (Trace message) given = (message ≡ unwrap_or given 1) × (message < 2 ^ 16)
IsErrnoOf KillProcess given = given ≡ None
IsErrnoOf KillThread given = given ≡ None
IsErrnoOf Trap given = given ≡ None
IsErrnoOf Allow given = given ≡ None
IsErrnoOf Log given = given ≡ None

-- the decision of the fields with these keys
pub record HasDecision (action_key errno_key : List ℕ) (tree : Data) (decision : Decision) : Type 0 where
  pub name : List ℕ
  pub there : HasField text action_key tree name
  pub named : IsNameOf decision name
  pub given : Option ℕ
  pub errno : MayHaveField whole errno_key tree given
  pub errno_is : IsErrnoOf decision given

abbrev pub IsOpName : Op → List ℕ → Type 0
IsOpName NotEqual name = name ≡ codes "SCMP_CMP_NE"
IsOpName Less name = name ≡ codes "SCMP_CMP_LT"
IsOpName LessOrEqual name = name ≡ codes "SCMP_CMP_LE"
IsOpName Equal name = name ≡ codes "SCMP_CMP_EQ"
IsOpName GreaterOrEqual name = name ≡ codes "SCMP_CMP_GE"
IsOpName Greater name = name ≡ codes "SCMP_CMP_GT"
IsOpName MaskedEqual name = name ≡ codes "SCMP_CMP_MASKED_EQ"

-- an item of "args"; an absent "valueTwo" is 0
pub record IsCond (tree : Data) (cond : Cond) : Type 0 where
  pub an_object : object tree ≡ Some tree
  pub index : HasField whole (codes "index") tree cond.index
  pub value : HasField whole (codes "value") tree cond.value
  pub given : Option ℕ
  pub two : MayHaveField whole (codes "valueTwo") tree given
  pub two_is : cond.value_two ≡ unwrap_or given 0
  pub name : List ℕ
  pub op : HasField text (codes "op") tree name
  pub named : IsOpName cond.op name

-- the number of the call with this name, if it is one of the known calls
unfoldable pub number_named : CallTable → Data → Option ℕ
number_named calls name = option_and_then (number_in calls) (text name)

-- whether all names are those of known calls
abbrev pub are_known : CallTable → List Data → Bool
are_known calls names = list_all (λ name. is_some (number_named calls name)) names

-- the decision's place in the order of actions
abbrev pub rank : Decision → ℕ
rank decision = rank_of (verdict_of decision).action

-- An item of "syscalls". A name of no known call is left out; if the entry is stricter than the default, each
-- call must be known.
pub record IsEntry (calls : CallTable) (default : Decision) (tree : Data) (entry : Entry) : Type 0 where
  pub an_object : object tree ≡ Some tree
  pub names : List Data
  pub there : HasField text_list (codes "names") tree names
  pub some : 0 < length names
  pub decides : HasDecision (codes "action") (codes "errnoRet") tree entry.decision
  pub args : Option (List Data)
  pub args_there : MayHaveField list (codes "args") tree args
  pub conds_are : Both IsCond (unwrap_or args []) entry.conds
  pub conds_fit : AreConds entry.conds
  pub numbers_are : entry.numbers ≡ filter_map (number_named calls) names
  pub known : rank entry.decision < rank default → IsTrue (are_known calls names)

-- fields without effect here, which have the right type if present
pub record HasIgnored (tree : Data) : Type 0 where
  pub architectures : Option (List Data)
  pub architectures_there : MayHaveField text_list (codes "architectures") tree architectures
  pub flags : Option (List Data)
  pub flags_there : MayHaveField text_list (codes "flags") tree flags
  pub path : Option (List ℕ)
  pub path_there : MayHaveField text (codes "listenerPath") tree path
  pub metadata : Option (List ℕ)
  pub metadata_there : MayHaveField text (codes "listenerMetadata") tree metadata

pub record IsProfile (calls : CallTable) (tree : Data) (profile : Profile) : Type 0 where
  pub an_object : object tree ≡ Some tree
  pub decides : HasDecision (codes "defaultAction") (codes "defaultErrnoRet") tree profile.default
  pub ignored : HasIgnored tree
  pub syscalls : Option (List Data)
  pub there : MayHaveField list (codes "syscalls") tree syscalls
  pub each : Both (IsEntry calls profile.default) (unwrap_or syscalls []) profile.entries

-- the text is this profile, if these are the known calls
pub record ReadsProfileWith (calls : CallTable) (bytes : List ℕ) (profile : Profile) : Type 0 where
  pub short : length bytes ≤ MAX_PROFILE_BYTES
  pub tree : Data
  pub is : tree_of bytes ≡ Some tree
  pub says : IsProfile calls tree profile

-- the same with the calls of Linux 5.8
abbrev pub ReadsProfile : List ℕ → Profile → Type 0
ReadsProfile bytes profile = ReadsProfileWith Linux5_8 bytes profile
