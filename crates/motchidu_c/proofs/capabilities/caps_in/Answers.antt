use Rattle.std.proofs.Common.{◌≡◌, ◌==◌, ◌/◌, ◌%◌, ◌^◌, ◌++◌, ◌∙◌, true, false, ap, map}
use Rattle.motchidu_c.proofs.CapNames.{found, passed_over}
use Rattle.motchidu_c.proofs.capabilities.caps_in.Goals.{then-has_bit+in_ok-push, else-has_bit}
use Rattle.motchidu_c.proofs.capabilities.caps_in.Goals as goal

pub loop-bit-preserved : goal.loop-bit-preserved
loop-bit-preserved c = elim c.if-has_bit.branch [
  | then-has_bit+in_ok-push w ↦
      let has : (c.args.mask / 2 ^ c.loop-bit.bit % 2 == 1) ≡ true = cc in
      rw (w.names-is, w.in_ok-push.ensures.items)
      (found _ _ _ _ _ c.loop-bit-test.true has ∙ c.loop-bit.invariant)
  | else-has_bit w ↦
      let has : (c.args.mask / 2 ^ c.loop-bit.bit % 2 == 1) ≡ false = cc in
      rw w.names-is (ap (λ names. map (λ name. name.now) c.loop-bit.names.items ++ names)
      (passed_over _ _ _ c.loop-bit-test.true has) ∙ c.loop-bit.invariant)
]
