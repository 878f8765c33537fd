use Rattle.std.proofs.Common.{◌≡◌, string_bytes, take}
use Rattle.seccheck_output.specs.LineText.{entry_text}
use Rattle.seccheck_output.specs.Texts.{lines_text}
use Rattle.seccheck_output.proofs.line.outcome_lines.Given as goal

abbrev pub invariant-loop-place : goal.invariant-loop-place
invariant-loop-place l = string_bytes l.text
    ≡ lines_text (entry_text l.naming) 0 (take l.place l.outcome.entries)
