-- The numbers so far are those of the calls below this one.
use Rattle.std.proofs.Common.{◌≡◌}
use Rattle.oci_profile.specs.RuntimeDefault.{allowed_below}
use Rattle.oci_profile.proofs.default_profile.allowed_below.Given as goal

abbrev pub invariant-loop-nr : goal.invariant-loop-nr
invariant-loop-nr l = l.numbers.items ≡ allowed_below l.nr
