-- What was written, followed by what is to be written from here on, is the whole text.
use Rattle.std.proofs.Common.{◌≡◌, ◌++◌, drop}
use Rattle.std.specs.Prelude.{string_bytes}
use Rattle.profile_table.specs.Objects.{entry_objects}
use Rattle.profile_table.proofs.objects.entry_objects.Given as goal

abbrev pub invariant-loop-place : goal.invariant-loop-place
invariant-loop-place l = string_bytes l.text ++ entry_objects l.calls l.rows l.place (drop l.place l.entries)
    ≡ entry_objects l.calls l.rows 0 l.entries
