use Rattle.bpf_code.specs.Flow.{flow_of}
use Rattle.bpf_verify.proofs.Rules.{walk_inside}
use Rattle.bpf_verify.proofs.Stored.{forward}
use Rattle.bpf_verify.proofs.laws.walks_stay_inside.Goals as goal

pub returns-clause-forward : goal.returns-clause-forward
returns-clause-forward c = λ code from to follows.
    forward (flow_of follows.insn.op) follows.insn from to follows.goes

pub returns-clause-inside : goal.returns-clause-inside
returns-clause-inside c = walk_inside
