-- Whether one from here on is bad is whether one of all is.
use Rattle.std.proofs.Common.{◌≡◌, drop, map}
use Rattle.std.specs.List.{list_any}
use Rattle.manifest_advice.specs.Advice.{told}
use Rattle.profile_lint.specs.Choice.{is_bad_kind}
use Rattle.seccheck_cli.specs.ManifestLint.{kind_of_advice}
use Rattle.seccheck_cli.proofs.manifests.is_manifest_bad.Given as goal

abbrev pub invariant-loop-advice : goal.invariant-loop-advice
invariant-loop-advice l = list_any (λ t. is_bad_kind l.allowed (kind_of_advice t))
    (map told (drop l.advice-index l.found))
    ≡ list_any (λ t. is_bad_kind l.allowed (kind_of_advice t)) (map told l.found)
