-- It ends at the first member.
use Rattle.std.proofs.Common.{◌≡◌}
use Rattle.profile_template.proofs.signs.are_some.Given as goal

abbrev pub invariant-loop : goal.invariant-loop
invariant-loop l = l.iterator' ≡ l.members.entries
