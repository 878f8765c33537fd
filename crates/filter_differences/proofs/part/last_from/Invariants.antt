use Rattle.std.proofs.Common.{◌≡◌, ◌<◌, ◌≤◌, ℕ, None}
use Rattle.sys_table.specs.SysTable.{name_in}
use Rattle.filter_differences.proofs.part.last_from.Given as goal

abbrev pub invariant-loop-next : goal.invariant-loop-next
invariant-loop-next l = (number : ℕ) → l.first ≤ number → number < l.next → name_in l.known number ≡ None
