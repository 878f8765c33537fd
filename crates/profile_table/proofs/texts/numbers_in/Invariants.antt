-- What was written, followed by what is to be written from here on, is the whole text.
use Rattle.std.proofs.Common.{◌≡◌, ◌++◌, drop}
use Rattle.profile_table.specs.Text.{numbers_in}
use Rattle.profile_table.proofs.texts.numbers_in.Given as goal

abbrev pub invariant-loop-row : goal.invariant-loop-row
invariant-loop-row l = l.numbers.items ++ numbers_in l.decider (drop l.row-index l.rows)
    ≡ numbers_in l.decider l.rows
