use Rattle.compile.proofs.Common.{◌+◌, ◌*◌, ◌≤◌, ◌<◌, drop, conditions_at, added_of}
use Rattle.compile.proofs.tree.counts.Given as goal

abbrev pub invariant-loop-entry : goal.invariant-loop-entry
invariant-loop-entry l = (l.conditions + conditions_at (drop l.entry-index l.entries) l.nr
    ≤ conditions_at l.entries l.nr)
    × (6 * l.conditions + l.many + added_of (drop l.entry-index l.entries) l.nr ≤ added_of l.entries l.nr)
    × (l.conditions < 65546) × (l.many < 65546)
