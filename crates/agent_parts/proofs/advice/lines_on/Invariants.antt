-- The lines so far, followed by those on the texts from here on, are all lines.
use Rattle.std.proofs.Common.{◌≡◌, ◌++◌, drop, map}
use Rattle.std.specs.Prelude.{string_bytes}
use Rattle.agent_parts.specs.AdviceLines.{advice_line}
use Rattle.agent_parts.proofs.advice.lines_on.Given as goal

abbrev pub invariant-loop-text : goal.invariant-loop-text
invariant-loop-text l = map string_bytes l.lines.items
    ++ map (advice_line l.path) (map string_bytes (drop l.text-index l.texts))
    ≡ map (advice_line l.path) (map string_bytes l.texts)
