-- The meaning of a filter's return value: seccomp(2), return values. An action that the manual does not list
-- is SECCOMP_RET_KILL_PROCESS, as in the manual; here it also ranks as that action.
use Rattle.std.specs.Prelude.{ℕ, ◌+◌, ◌*◌, ◌/◌, ◌%◌, ◌^◌, ◌==◌, min, Bool, true, false, List, [], ◌∷◌, find}
use Rattle.std.specs.Prelude.{codes, Option, Some, None, unwrap_or}
use Rattle.action.specs.declared.action.Action.{Action}
use Rattle.action.specs.declared.action.Action.TheVariants.{KillProcess, KillThread, Trap, Errno, UserNotif}
use Rattle.action.specs.declared.action.Action.TheVariants.{Trace, Log, Allow}
use Rattle.action.specs.declared.verdict.Verdict.{Verdict}
use Rattle.action.specs.declared.verdict.TheConstants.{ENOSYS, MAX_ERRNO}

-- the upper 16 bits of the values of an action
abbrev pub code_of : Action → ℕ
code_of KillProcess = 0x8000
code_of KillThread = 0x0000
code_of Trap = 0x0003
code_of Errno = 0x0005
code_of UserNotif = 0x7fc0
code_of Trace = 0x7ff0
code_of Log = 0x7ffc
code_of Allow = 0x7fff

-- the place of an action in the order in which the results of several filters take precedence
abbrev pub rank_of : Action → ℕ
rank_of KillProcess = 0
rank_of KillThread = 1
rank_of Trap = 2
rank_of Errno = 3
rank_of UserNotif = 4
rank_of Trace = 5
rank_of Log = 6
rank_of Allow = 7

-- whether a call with this action is performed
abbrev pub performs_of : Action → Bool
performs_of Log = true
performs_of Allow = true
performs_of _ = false

-- the name in the manual, without SECCOMP_RET_
abbrev pub name_of : Action → List ℕ
name_of KillProcess = codes "KILL_PROCESS"
name_of KillThread = codes "KILL_THREAD"
name_of Trap = codes "TRAP"
name_of Errno = codes "ERRNO"
name_of UserNotif = codes "USER_NOTIF"
name_of Trace = codes "TRACE"
name_of Log = codes "LOG"
name_of Allow = codes "ALLOW"

abbrev pub every_action : List Action
every_action = KillProcess ∷ KillThread ∷ Trap ∷ Errno ∷ UserNotif ∷ Trace ∷ Log ∷ Allow ∷ []

-- the action with this code, or KillProcess if no action has it
unfoldable pub action_of : ℕ → Action
action_of code = unwrap_or (find (λ action. code_of action == code) every_action) KillProcess

-- the verdict of a value
abbrev pub verdict_of : ℕ → Verdict
verdict_of value = record { action = action_of (value / 2 ^ 16); ret_data = value % 2 ^ 16 }

-- the value of a verdict
abbrev pub value_of : Verdict → ℕ
value_of verdict = code_of verdict.action * 2 ^ 16 + verdict.ret_data

-- the errno that a call returns instead of being performed, if any: ENOSYS if a supervisor or tracer is
-- needed and there is none
abbrev pub errno_by : Action → ℕ → Option ℕ
errno_by Errno ret_data = Some (min ret_data MAX_ERRNO)
errno_by UserNotif ret_data = Some ENOSYS
errno_by Trace ret_data = Some ENOSYS
errno_by _ ret_data = None

abbrev pub errno_of : Verdict → Option ℕ
errno_of verdict = errno_by verdict.action verdict.ret_data
