use Rattle.std.proofs.Common.{arith}
use Rattle.oci_profile.proofs.Default.{default_light}
use Rattle.oci_profile.proofs.laws.runtime_default_is_light.Goals as goal

pub returns : goal.returns
returns c = omega (arith, default_light)
