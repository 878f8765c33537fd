use Rattle.std.proofs.Common.{◌≡◌, ◌<◌, ℕ, Some, slice_get}
use Rattle.wrong_files.specs.declared.hint.Hint.{Hint}
use Rattle.wrong_files.specs.Hints.{Suits}
use Rattle.wrong_files.proofs.hints.first_that_suits.Given as goal

abbrev pub invariant-loop-at : goal.invariant-loop-at
invariant-loop-at l =
    (before : ℕ) (other : Hint) → before < l.at → slice_get l.hints before ≡ Some other
    → ¬ Suits l.bytes other
