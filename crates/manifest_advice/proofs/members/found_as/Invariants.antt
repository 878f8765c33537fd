-- No name before this one is the key's.
use Rattle.std.proofs.Common.{◌≡◌, drop, map}
use Rattle.std.specs.Prelude.{find}
use Rattle.manifest_advice.specs.Advice.{is_other_case}
use Rattle.manifest_advice.proofs.members.found_as.Given as goal

abbrev pub invariant-loop-name : goal.invariant-loop-name
invariant-loop-name l = find (is_other_case l.key) (map (λ name. name.now) (drop l.name-index l.names))
    ≡ find (is_other_case l.key) (map (λ name. name.now) l.names)
