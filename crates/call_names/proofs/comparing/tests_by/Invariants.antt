-- There is an answer for each place before this one, and each yes is right.
use Rattle.std.proofs.Common.{◌≡◌, ℕ, true, false, length, get_or}
use Rattle.call_names.specs.Tests.{IsNumberTest}
use Rattle.call_names.proofs.comparing.tests_by.Given as goal

abbrev pub invariant-loop-at : goal.invariant-loop-at
invariant-loop-at l = (length l.tests.items ≡ l.at)
    × ((k : ℕ) → get_or l.tests.items k false ≡ true → IsNumberTest l.code k)
