-- The texts so far, followed by those of the advice from here on, are all of them.
use Rattle.std.proofs.Common.{◌≡◌, ◌++◌, drop, map}
use Rattle.std.specs.Prelude.{string_bytes}
use Rattle.manifest_advice.specs.Advice.{told}
use Rattle.manifest_advice.specs.Words.{advice_text}
use Rattle.manifest_advice.proofs.texts.texts.Given as goal

abbrev pub invariant-loop-advice : goal.invariant-loop-advice
invariant-loop-advice l = map string_bytes l.texts.items
    ++ map advice_text (map told (drop l.advice-index l.found))
    ≡ map advice_text (map told l.found)
