-- A run follows a walk with a place for each step, so it takes no more steps than the longest walk.
use Rattle.std.proofs.Common.{◌≡◌, ◌≤◌, ℕ, zero, suc, List, [], ◌∷◌, length, refl, ap, arith}
use Rattle.bpf_code.specs.declared.insn.Insn.{Insn}
use Rattle.call_data.specs.declared.sys_call.SysCall.{SysCall}
use Rattle.bpf_verify.specs.Longest.{IsLongest}
use Rattle.bpf_verify.specs.Walks.{IsWalk}
use Rattle.bpf_machine.specs.Machine.{State}
use Rattle.bpf_machine.specs.Runs.{Reaches, Runs}
use Rattle.bpf_machine.proofs.Progress.{step_follows}

walk_of : (code : List Insn) (call : SysCall) (n : ℕ) (s : State) → Reaches code call n s → (before : List ℕ)
    × IsWalk code before s.place × (length before ≡ n)
walk_of code call zero s reached = ([], ap (λ (u : State). u.place) reached, refl)
walk_of code call (suc n) s reached =
    let so_far = walk_of code call n reached.0 reached.1 in
    (reached.0.place ∷ so_far.0, (so_far.1, step_follows code call reached.0 s reached.2), ap suc so_far.2)

pub run_at_most : (code : List Insn) (call : SysCall) (value steps places : ℕ) → Runs code call value steps
    → IsLongest code places → steps ≤ places
run_at_most code call value steps places run longest =
    let walk = walk_of code call run.before run.last run.reached in
    omega (arith, run.counted, walk.2, longest.none_longer walk.0 run.last.place walk.1)
