-- What was counted, and what is counted from here on, is the whole number.
use Rattle.std.proofs.Common.{◌≡◌, ◌≤◌, ◌+◌, drop, map}
use Rattle.profile_lint.specs.Choice.{counted}
use Rattle.profile_lint.specs.Passed.{told}
use Rattle.profile_lint.proofs.choice.counted.Given as goal

abbrev pub invariant-loop-item : goal.invariant-loop-item
invariant-loop-item l =
    (l.count + counted l.wanted l.choice.is_all l.choice.allowed.now (map told (drop l.item-index l.passed))
    ≡ counted l.wanted l.choice.is_all l.choice.allowed.now (map told l.passed)) × (l.count ≤ l.item-index)
