-- What was written, followed by what is written from here on, is the whole text.
use Rattle.std.proofs.Common.{◌≡◌, ◌++◌, drop, map}
use Rattle.std.specs.Prelude.{flat_map, string_bytes}
use Rattle.manifest_advice.specs.Advice.{told}
use Rattle.seccheck_cli.specs.ManifestLint.{advice_line}
use Rattle.seccheck_cli.proofs.manifests.advice_lines.Given as goal

abbrev pub invariant-loop-advice : goal.invariant-loop-advice
invariant-loop-advice l = string_bytes l.text
    ++ flat_map (advice_line l.form l.allowed) (map told (drop l.advice-index l.found))
    ≡ flat_map (advice_line l.form l.allowed) (map told l.found)
