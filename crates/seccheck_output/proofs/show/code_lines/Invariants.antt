use Rattle.std.proofs.Common.{◌≡◌, string_bytes, take}
use Rattle.seccheck_output.specs.Texts.{line_text, lines_text}
use Rattle.seccheck_output.proofs.show.code_lines.Given as goal

abbrev pub invariant-loop-place : goal.invariant-loop-place
invariant-loop-place l = string_bytes l.text ≡ lines_text (line_text l.calls l.number_tests) 0 (take l.place l.code)
