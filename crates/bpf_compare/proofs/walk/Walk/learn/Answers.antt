use Rattle.std.proofs.Common.{inl, inr}
use Rattle.bpf_compare.proofs.Walks.{learned}
use Rattle.bpf_compare.proofs.walk.Walk.learn.Goals as goal

pub returns-in-None : goal.returns-in-None
returns-in-None c = λ code call follows. rw c.in-None.is at (c.in_ok-ask.ensures call follows.among)

pub returns-in-All : goal.returns-in-All
returns-in-All c = λ code call follows.
    learned _ follows (rw c.in-All.is at (c.in_ok-ask.ensures call follows.among))

pub returns-in-Greater : goal.returns-in-Greater
returns-in-Greater c = λ code call follows.
    elim (rw c.in-Both.is at (c.in_ok-ask.ensures call follows.among)) [
      | inl stays ↦ inl (learned _ follows stays)
      | inr goes ↦ inr (rw c.with.ensures (learned _ follows goes))
    ]
