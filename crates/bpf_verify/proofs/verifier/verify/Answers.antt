use Rattle.bpf_verify.proofs.FirstFault.{IsFirstFault-unique}
use Rattle.bpf_verify.proofs.verifier.verify.Goals as goal

pub returns-in-Some-clause-told : goal.returns-in-Some-clause-told
returns-in-Some-clause-told c = λ fault is.
    IsFirstFault-unique c.args.insns.items c.in-Some.fault fault
    (rw c.deref.ensures.value at c.in-Some.ensures.first) is
