use Rattle.std.proofs.Common.{◌≡◌, string_bytes, take}
use Rattle.seccheck_output.specs.ListObjects.{insn_object}
use Rattle.seccheck_output.specs.Texts.{lines_text}
use Rattle.seccheck_output.proofs.list_objects.code_objects.Given as goal

abbrev pub invariant-loop-place : goal.invariant-loop-place
invariant-loop-place l = string_bytes l.text ≡ lines_text (insn_object l.calls l.number_tests) 0 (take l.place l.code)
