-- How a profile is written: OCI runtime-spec 1.1, config-linux, seccomp, as compact JSON with the members of
-- each object in the order of their keys' bytes. This project's own is what is left out: `args` if there are
-- none, a `valueTwo` of 0, and fields without effect.
use Rattle.std.specs.Prelude.{ℕ, ◌==◌, List, [], ◌∷◌, codes, map, if◌then◌else◌, Option, Some, None}
use Rattle.std.specs.Prelude.{unwrap_or}
use Rattle.serde_json.specs.Data.{Data, number, unsigned, string, array, object, Members, no_members, put}
use Rattle.serde_json.specs.View.{items_of}
use Rattle.serde_json.specs.Written.{compact_text}
use Rattle.sys_table.specs.SysTable.{name_in}
use Rattle.sys_table.specs.declared.calls.CallTable.{CallTable}
use Rattle.oci_profile.specs.declared.conditions.Cond.{Cond}
use Rattle.oci_profile.specs.declared.conditions.Op.{Op}
use Rattle.oci_profile.specs.declared.conditions.Op.TheVariants.{NotEqual, Less, LessOrEqual, Equal}
use Rattle.oci_profile.specs.declared.conditions.Op.TheVariants.{GreaterOrEqual, Greater, MaskedEqual}
use Rattle.oci_profile.specs.declared.decision.Decision.{Decision}
use Rattle.oci_profile.specs.declared.decision.Decision.TheVariants.{KillProcess, KillThread, Trap, Errno}
use Rattle.oci_profile.specs.declared.decision.Decision.TheVariants.{Trace, Allow, Log}
use Rattle.oci_profile.specs.declared.profile.Entry.{Entry}
use Rattle.oci_profile.specs.declared.profile.Profile.{Profile}

abbrev pub whole_number : ℕ → Data
whole_number n = number (unsigned n)

-- the number, if there is one
abbrev pub with_whole : List ℕ → Option ℕ → Members → Members
with_whole key None members = members
with_whole key (Some n) members = put key (whole_number n) members

-- the list, unless it is empty
abbrev pub with_list : List ℕ → List Data → Members → Members
with_list key [] members = members
with_list key (x ∷ xs) members = put key (array (items_of (x ∷ xs))) members

abbrev pub op_name : Op → List ℕ
op_name NotEqual = codes "SCMP_CMP_NE"
op_name Less = codes "SCMP_CMP_LT"
op_name LessOrEqual = codes "SCMP_CMP_LE"
op_name Equal = codes "SCMP_CMP_EQ"
op_name GreaterOrEqual = codes "SCMP_CMP_GE"
op_name Greater = codes "SCMP_CMP_GT"
op_name MaskedEqual = codes "SCMP_CMP_MASKED_EQ"

abbrev pub two_of : ℕ → Option ℕ
two_of two = if two == 0 then None else Some two

abbrev pub cond_tree : Cond → Data
cond_tree cond = object (
    with_whole (codes "valueTwo") (two_of cond.value_two) (
    put (codes "op") (string (op_name cond.op)) (
    put (codes "value") (whole_number cond.value) (
    put (codes "index") (whole_number cond.index) no_members))))

abbrev pub action_name : Decision → List ℕ
action_name KillProcess = codes "SCMP_ACT_KILL_PROCESS"
action_name KillThread = codes "SCMP_ACT_KILL_THREAD"
action_name Trap = codes "SCMP_ACT_TRAP"
action_name (Errno errno) = codes "SCMP_ACT_ERRNO"
action_name (Trace message) = codes "SCMP_ACT_TRACE"
action_name Allow = codes "SCMP_ACT_ALLOW"
action_name Log = codes "SCMP_ACT_LOG"

abbrev pub errno_of : Decision → Option ℕ
errno_of (Errno errno) = Some errno
errno_of (Trace message) = Some message
errno_of KillProcess = None
errno_of KillThread = None
errno_of Trap = None
errno_of Allow = None
errno_of Log = None

abbrev pub name_text : CallTable → ℕ → List ℕ
name_text calls nr = unwrap_or (name_in calls nr) []

-- an entry that names no call has the empty name, which no call has
abbrev pub names_of : CallTable → List ℕ → List (List ℕ)
names_of calls [] = [] ∷ []
names_of calls (n ∷ ns) = map (name_text calls) (n ∷ ns)

-- an entry with these names
abbrev pub entry_with : List Data → List ℕ → Option ℕ → List Cond → Data
entry_with names action errno conds = object (
    with_whole (codes "errnoRet") errno (
    with_list (codes "args") (map cond_tree conds) (
    put (codes "action") (string action) (
    put (codes "names") (array (items_of names)) no_members))))

abbrev pub entry_tree : CallTable → Entry → Data
entry_tree calls entry = entry_with (map string (names_of calls entry.numbers)) (action_name entry.decision)
    (errno_of entry.decision) entry.conds

unfoldable pub profile_tree : CallTable → Profile → Data
profile_tree calls profile = object (
    with_whole (codes "defaultErrnoRet") (errno_of profile.default) (
    put (codes "defaultAction") (string (action_name profile.default)) (
    put (codes "syscalls") (array (items_of (map (entry_tree calls) profile.entries))) no_members)))

-- the text, which names these calls
abbrev pub profile_text : CallTable → Profile → List ℕ
profile_text calls profile = compact_text (profile_tree calls profile)
