-- What was found, and what is found from this place on, are all together.
use Rattle.std.proofs.Common.{◌≡◌, ◌++◌, drop}
use Rattle.denied_calls.specs.Deciding.{of_entries}
use Rattle.denied_calls.proofs.deciding.of_entries.Given as goal

abbrev pub invariant-loop-place : goal.invariant-loop-place
invariant-loop-place l = l.found.items ++ of_entries l.call l.place (drop l.place l.entries)
    ≡ of_entries l.call 0 l.entries
