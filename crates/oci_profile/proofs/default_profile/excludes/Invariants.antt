-- The text is among the names from this one on exactly if it is among all.
use Rattle.std.proofs.Common.{◌≡◌, map, drop}
use Rattle.std.specs.List.{list_any}
use Rattle.std.specs.Str.{bytes_eq}
use Rattle.oci_profile.specs.RuntimeDefault.{excludes}
use Rattle.oci_profile.proofs.default_profile.excludes.Given as goal

abbrev pub invariant-loop-other : goal.invariant-loop-other
invariant-loop-other l = list_any (λ other. bytes_eq l.name other)
    (map (λ text. text.now) (drop l.other-index l.other-items)) ≡ excludes l.name
