use Rattle.std.proofs.Common.{◌≡◌, ◌+◌, ◌∷◌, [], ◌++◌, arith, subst, sym, refl}
use Rattle.std.proofs.lemmas.Grind.{common_steps}
use Rattle.profile_unit.specs.Units.{IsUpTo}
use Rattle.profile_unit.proofs.Listed.{pushed, left}
use Rattle.profile_unit.proofs.unit.named_calls.Goals as goal
use Rattle.profile_unit.proofs.unit.named_calls.Goals.{then-differs+in_ok-push, else-differs}

pub loop-nr-preserved : goal.loop-nr-preserved
loop-nr-preserved c =
    let entries = c.args.entries.now in
    let default = c.args.default.now in
    let at = c.loop-nr.nr in
    let decision = c.first_named-decision.result in
    elim c.if-differs.branch [
      | then-differs+in_ok-push w ↦
          let grown = pushed entries default at c.loop-nr.calls.items (record { nr = at; decision = decision })
          c.loop-nr.invariant refl c.first_named-decision.ensures in
          subst (IsUpTo entries default (at + 1)) (grind (arith, common_steps, w.calls-is, w.in_ok-push.ensures)) grown
      | else-differs w ↦
          let same = left entries default at c.loop-nr.calls.items c.loop-nr.invariant
          (grind (arith, common_steps, w.if-differs, c.differs.ensures, c.first_named-decision.ensures)) in
          subst (IsUpTo entries default (at + 1)) (grind (arith, common_steps, w.calls-is)) same
    ]
