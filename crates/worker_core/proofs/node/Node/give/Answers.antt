use Rattle.std.proofs.Common.{ℕ, ◌+◌, ap, subst, sym, ◌∙◌, arith}
use Rattle.worker_core.specs.Kept.{KeptNode}
use Rattle.worker_core.specs.Slots.{AllCounted}
use Rattle.worker_core.proofs.node.Node.give.Goals as goal

pub invariant_of-self : goal.invariant_of-self
invariant_of-self c = record {
  ended = c.claim.ensures.by c.self.inside.moment c.self.invariant.ended;
  few = omega (arith, c.claim.ensures.same, c.self.invariant.few);
  counted = subst (λ (number : ℕ). AllCounted number c.claim.new.self)
      (sym (c.requires ∙ ap (λ (k : KeptNode). k.number + 1) (sym c.self.view_is)))
      (c.claim.ensures.counted c.self.inside.number c.self.invariant.counted);
}
