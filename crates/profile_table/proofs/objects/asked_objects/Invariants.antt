-- What was written, followed by what is to be written from here on, is the whole text.
use Rattle.std.proofs.Common.{◌≡◌, ◌++◌, drop}
use Rattle.std.specs.Prelude.{string_bytes}
use Rattle.profile_table.specs.Objects.{asked_objects}
use Rattle.profile_table.proofs.objects.asked_objects.Given as goal

abbrev pub invariant-loop-row : goal.invariant-loop-row
invariant-loop-row l = string_bytes l.text ++ asked_objects l.calls l.profile (drop l.row-index l.rows)
    ≡ asked_objects l.calls l.profile l.rows
