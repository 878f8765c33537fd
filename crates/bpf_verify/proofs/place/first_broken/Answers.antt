use Rattle.std.proofs.Common.{length, refl}
use Rattle.bpf_verify.specs.Sound.{KeepsRules}
use Rattle.bpf_verify.proofs.Places.{places_read, places_all}
use Rattle.bpf_verify.proofs.place.first_broken.Goals as goal

pub loop-at-preserved : goal.loop-at-preserved
loop-at-preserved c =
    places_read (KeepsRules (length c.args.code.now)) c.args.code.now c.loop-at.at _ c.loop-at.invariant
    c.loop-at-test.true (c.if-not-keeps_rules.ensures.0 refl)

pub returns-clause-fine : goal.returns-clause-fine
returns-clause-fine c = places_all (KeepsRules (length c.args.code.now)) c.args.code.now c.loop-at.at
    c.loop-at.invariant c.loop-at-test.false
