-- What was added, followed by the near ones of the others from here on, is all of them.
use Rattle.std.proofs.Common.{◌≡◌, ◌++◌, drop}
use Rattle.profile_lint.specs.Sameness.{near}
use Rattle.profile_lint.proofs.copies.add_near.Given as goal

abbrev pub invariant-loop-other : goal.invariant-loop-other
invariant-loop-other l = l.list.items ++ near l.entry (drop l.other-index l.others)
    ≡ l.initial.list.items ++ near l.entry l.others
