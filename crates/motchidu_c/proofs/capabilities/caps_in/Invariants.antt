-- The names found so far, followed by those to find from this bit on, are all of them.
use Rattle.std.proofs.Common.{◌≡◌, ◌++◌, map}
use Rattle.motchidu_c.specs.Templates.{caps_in}
use Rattle.motchidu_c.proofs.CapNames.{rest}
use Rattle.motchidu_c.proofs.capabilities.caps_in.Given as goal

abbrev pub invariant-loop-bit : goal.invariant-loop-bit
invariant-loop-bit l = map (λ name. name.now) l.names.items ++ rest l.mask l.bit l.name-items ≡ caps_in l.mask
