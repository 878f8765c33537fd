-- The number so far with the digits from this one on is the number of all digits.
use Rattle.std.proofs.Common.{◌≡◌, drop}
use Rattle.profile_template.specs.Version.{number_after}
use Rattle.profile_template.proofs.version.number_after.Given as goal

abbrev pub invariant-loop-digit : goal.invariant-loop-digit
invariant-loop-digit l = number_after l.number (drop l.digit-index l.digits) ≡ number_after 0 l.digits
