-- The entries so far whose conditions are met, followed by those of the others, are those of all.
use Rattle.std.proofs.Common.{◌≡◌, ◌++◌}
use Rattle.profile_template.specs.Resolved.{met_entries}
use Rattle.profile_template.proofs.left_out.met_entries.Given as goal

abbrev pub invariant-loop-entry : goal.invariant-loop-entry
invariant-loop-entry l = l.met.items ++ met_entries l.entry-iterator.rest.items
    ≡ met_entries l.initial.entry-iterator.rest.items
