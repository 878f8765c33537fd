-- The digits so far and those from here on are all, and an ASCII character stands before this place.
use Rattle.std.proofs.Common.{◌≡◌, ◌<◌, ◌≤◌, ◌+◌, ◌-◌, drop, length, slice_index}
use Rattle.seccheck_cli.specs.Settings.{digits_at}
use Rattle.seccheck_cli.proofs.settings.end_of_digits.Given as goal

abbrev pub invariant-loop-end : goal.invariant-loop-end
invariant-loop-end l = record {
  within : l.end ≤ length l.bytes;
  whole : l.end + digits_at (drop l.end l.bytes) ≡ l.from + digits_at (drop l.from l.bytes);
  ascii : slice_index l.bytes (l.end - 1) < 128;
}

abbrev pub decreases-loop-end : goal.decreases-loop-end
decreases-loop-end l = length l.bytes - l.end
