use Rattle.std.proofs.Common.{◌≤◌}
use Rattle.std.specs.List.{All}
use Rattle.call_data.specs.declared.sys_call.SysCall.{SysCall}
use Rattle.bpf_compare.specs.Known.{Avoids, IsIn, number_at}
use Rattle.bpf_compare.proofs.known.is_ruled_out.Given as goal

abbrev pub invariant-loop-number : goal.invariant-loop-number
invariant-loop-number l = (call : SysCall) → All (Avoids call) l.excluded
    → IsIn l.range (number_at call l.word.place) → l.number ≤ number_at call l.word.place
