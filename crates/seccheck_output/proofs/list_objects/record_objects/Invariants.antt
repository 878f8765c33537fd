use Rattle.std.proofs.Common.{◌≡◌, string_bytes, take}
use Rattle.seccheck_output.specs.ListObjects.{entry_object}
use Rattle.seccheck_output.specs.Texts.{lines_text}
use Rattle.seccheck_output.proofs.list_objects.record_objects.Given as goal

abbrev pub invariant-loop-place : goal.invariant-loop-place
invariant-loop-place l = string_bytes l.text
    ≡ lines_text (entry_object l.naming) 0 (take l.place l.outcome.entries)
