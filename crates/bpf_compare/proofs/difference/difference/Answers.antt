use Rattle.std.proofs.Common.{sym, ◌∙◌}
use Rattle.bpf_compare.proofs.difference.difference.Goals as goal
use Rattle.bpf_compare.proofs.difference.difference.Goals.{else-one-other-via-then-one-other+else-has}
use Rattle.bpf_compare.proofs.difference.difference.Goals.{else-one-other-via-else-one-other}

pub returns-else-one-other-clause-none : goal.returns-else-one-other-clause-none
returns-else-one-other-clause-none c = λ one other of first second.
    let one_is = c.runs_are_determined.ensures.value _ _ _ _ _ _ first.run c.run-one.ensures.run in
    let other_is = c.runs_are_determined.ensures.value _ _ _ _ _ _ second.run c.run-other.ensures.run in
    elim c.else-one-other.branch [
      | else-one-other-via-then-one-other+else-has w ↦ absurd (cc (w.has.ensures.complete of, w.if-has.false))
      | else-one-other-via-else-one-other w ↦ one_is ∙ w.if-one-other.false ∙ sym other_is
    ]
