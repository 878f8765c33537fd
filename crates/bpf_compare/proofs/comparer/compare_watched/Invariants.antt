use Rattle.std.proofs.Common.{◌≡◌, None}
use Rattle.call_data.specs.declared.sys_call.SysCall.{SysCall}
use Rattle.bpf_compare.specs.Agree.{IsOf}
use Rattle.bpf_compare.specs.Paths.{IsHeld}
use Rattle.bpf_compare.proofs.comparer.compare_watched.Given as goal

abbrev pub invariant-loop : goal.invariant-loop
invariant-loop g l = l.doubt ≡ None → (call : SysCall) → IsOf l.scope call
    → IsHeld l.first l.second call l.path l.waiting.items
