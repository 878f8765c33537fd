-- What was written, followed by what is to be written from here on, is the whole text.
use Rattle.std.proofs.Common.{◌≡◌, ◌++◌, drop}
use Rattle.std.specs.Prelude.{string_bytes}
use Rattle.profile_table.specs.Objects.{ways_objects}
use Rattle.profile_table.proofs.objects.ways_objects.Given as goal

abbrev pub invariant-loop-place : goal.invariant-loop-place
invariant-loop-place l = string_bytes l.text ++ ways_objects l.row l.place (drop l.place l.entries)
    ≡ ways_objects l.row 0 l.entries
