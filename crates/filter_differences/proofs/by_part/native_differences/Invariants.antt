use Rattle.std.proofs.Common.{◌<◌, ◌≤◌}
use Rattle.std.specs.List.{All}
use Rattle.call_data.specs.declared.sys_call.SysCall.{SysCall}
use Rattle.bpf_compare.specs.Agree.{Agree, IsOf}
use Rattle.bpf_compare.specs.declared.scope.Scope.TheVariants.{NativeCalls}
use Rattle.filter_differences.specs.Differences.{Ascend, IsBelow, IsOfPart, IsTrue, Misses}
use Rattle.sys_table.specs.SysTable.{limit_of}
use Rattle.filter_differences.proofs.by_part.native_differences.Given as goal

abbrev pub invariant-loop-nr : goal.invariant-loop-nr
invariant-loop-nr g l =
    ((call : SysCall) → IsOf NativeCalls call → call.nr < l.next → All (Misses l.known call) l.found.items
    → Agree l.first l.second call)
    × All (IsTrue l.first l.second) l.found.items
    × All (IsOfPart l.known) l.found.items
    × Ascend l.found.items
    × All (IsBelow l.next) l.found.items
    × (l.nr ≤ l.next)
    × (l.next ≤ limit_of l.known)
