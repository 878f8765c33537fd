use Rattle.std.proofs.Common.{inl, inr}
use Rattle.bpf_compare.proofs.Walks.{in_second, learned}
use Rattle.bpf_compare.proofs.path.Path.restart_with.Goals as goal

pub returns-in-None-clause-becomes : goal.returns-in-None-clause-becomes
returns-in-None-clause-becomes c = λ first second call one is returns among.
    absurd (rw c.in-None.is at (c.in_ok-ask.ensures call (rw c.restart.ensures.kept among)))

pub returns-in-All-clause-becomes : goal.returns-in-All-clause-becomes
returns-in-All-clause-becomes c = λ first second call one is returns among.
    in_second _ _ call _ one _ is returns (learned _ (c.restart.ensures.follows _ call among)
    (rw c.in-All.is at (c.in_ok-ask.ensures call (rw c.restart.ensures.kept among))))

pub returns-in-Both-clause-becomes : goal.returns-in-Both-clause-becomes
returns-in-Both-clause-becomes c = λ first second call one is returns among.
    let anew = c.restart.ensures.follows second call among in
    elim (rw c.in-Both.is at (c.in_ok-ask.ensures call (rw c.restart.ensures.kept among))) [
      | inl stays ↦ inl (in_second _ _ call _ one _ is returns (learned _ anew stays))
      | inr goes ↦ inr (in_second _ _ call _ one _ is returns
          (rw c.with.ensures (learned _ anew goes)))
    ]
