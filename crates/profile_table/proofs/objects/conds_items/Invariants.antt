-- What was written, followed by what is to be written from here on, is the whole text.
use Rattle.std.proofs.Common.{◌≡◌, ◌++◌, drop}
use Rattle.std.specs.Prelude.{string_bytes}
use Rattle.profile_table.specs.Objects.{conds_items}
use Rattle.profile_table.proofs.objects.conds_items.Given as goal

abbrev pub invariant-loop-place : goal.invariant-loop-place
invariant-loop-place l = string_bytes l.text ++ conds_items l.place (drop l.place l.conds)
    ≡ conds_items 0 l.conds
