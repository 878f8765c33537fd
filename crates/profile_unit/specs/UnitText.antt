-- The lines of a unit's filter of calls, for a file of its folder .d: systemd.unit(5), systemd.exec(5).
use Rattle.std.specs.Prelude.{ℕ, List, [], ◌∷◌, ◌++◌, codes, unwrap_or}
use Rattle.std.specs.Fmt.{decimal}
use Rattle.sys_table.specs.SysTable.{name_in}
use Rattle.sys_table.specs.declared.calls.CallTable.{CallTable}
use Rattle.oci_profile.specs.declared.decision.Decision.{Decision}
use Rattle.oci_profile.specs.declared.decision.Decision.TheVariants.{Allow, Errno}
use Rattle.profile_unit.specs.declared.faults.UnitFault.{UnitFault}
use Rattle.profile_unit.specs.declared.faults.UnitFault.TheVariants.{Condition, DefaultAction, CallAction}
use Rattle.profile_unit.specs.declared.faults.UnitFault.TheVariants.{NoCalls, Memory}
use Rattle.profile_unit.specs.declared.unit.NamedCall.{NamedCall}

abbrev pub fault_name : UnitFault → List ℕ
fault_name (Condition place) = codes "Condition"
fault_name DefaultAction = codes "DefaultAction"
fault_name (CallAction nr) = codes "CallAction"
fault_name NoCalls = codes "NoCalls"
fault_name Memory = codes "Memory"

abbrev pub fault_text : CallTable → UnitFault → List ℕ
fault_text known (Condition place) =
    codes "syscalls[" ++ (decimal place ++ codes "]: a unit's filter compares no arguments")
fault_text known DefaultAction =
    codes "defaultAction: a unit's filter has ALLOW, KILL_PROCESS or an errno from 1 on"
fault_text known (CallAction nr) = unwrap_or (name_in known nr) []
    ++ codes ": a unit lists allowed calls, or calls with KILL_PROCESS or an errno from 1 on"
fault_text known NoCalls = codes "defaultAction decides every call"
fault_text known Memory = codes "Memory"

abbrev pub call_name : CallTable → NamedCall → List ℕ
call_name known call = unwrap_or (name_in known call.nr) []

-- what a denied call returns: an errno, or the end of the process
abbrev pub denied_by : Decision → List ℕ
denied_by (Errno errno) = codes ":" ++ decimal errno
denied_by other = codes ":kill"

-- a word of a list of allowed calls is the call's name, and one of a list of denied calls has the errno too
abbrev pub call_word : CallTable → Decision → NamedCall → List ℕ
call_word known Allow call = call_name known call ++ denied_by call.decision
call_word known rest call = call_name known call

abbrev pub others_text : CallTable → Decision → List NamedCall → List ℕ
others_text known rest [] = []
others_text known rest (call ∷ calls) = codes " " ++ (call_word known rest call ++ others_text known rest calls)

abbrev pub calls_text : CallTable → Decision → List NamedCall → List ℕ
calls_text known rest [] = []
calls_text known rest (call ∷ calls) = call_word known rest call ++ others_text known rest calls

abbrev pub first_name : CallTable → List NamedCall → List ℕ
first_name known [] = []
first_name known (call ∷ calls) = call_name known call

-- The first line makes the list one of allowed calls, to which systemd adds those of @default. The second
-- line removes these.
abbrev pub exact_text : CallTable → List NamedCall → List ℕ
exact_text known calls =
    codes "SystemCallFilter=" ++ (first_name known calls ++ codes "\nSystemCallFilter=~@default\nSystemCallFilter=")

abbrev pub errno_text : ℕ → List ℕ
errno_text errno = codes "SystemCallErrorNumber=" ++ (decimal errno ++ codes "\n")

-- what comes before the words of the list
abbrev pub head_text : CallTable → Decision → List NamedCall → List ℕ
head_text known Allow calls = codes "SystemCallFilter=~"
head_text known (Errno errno) calls = errno_text errno ++ exact_text known calls
head_text known rest calls = exact_text known calls

abbrev pub unit_text : CallTable → Decision → List NamedCall → List ℕ
unit_text known rest calls = codes "[Service]\nSystemCallArchitectures=native\n" ++ (head_text known rest calls
    ++ (calls_text known rest calls ++ codes "\n"))
