-- What was written, followed by what is to be written from here on, is the whole text.
use Rattle.std.proofs.Common.{◌≡◌, ◌++◌, drop}
use Rattle.std.specs.Prelude.{string_bytes}
use Rattle.profile_table.specs.Objects.{names_items}
use Rattle.profile_table.proofs.objects.names_items.Given as goal

abbrev pub invariant-loop-place : goal.invariant-loop-place
invariant-loop-place l = string_bytes l.text ++ names_items l.calls l.place (drop l.place l.numbers)
    ≡ names_items l.calls 0 l.numbers
