-- What was written, followed by the entries from here on, is the whole text.
use Rattle.std.proofs.Common.{◌≡◌, ◌++◌, drop}
use Rattle.std.specs.Prelude.{string_bytes}
use Rattle.profile_report.specs.Entries.{entries_from}
use Rattle.profile_report.proofs.entries.entries_from.Given as goal

abbrev pub invariant-loop-place : goal.invariant-loop-place
invariant-loop-place l = string_bytes l.text
    ++ entries_from l.calls l.passed l.found l.place (drop l.place l.entries)
    ≡ entries_from l.calls l.passed l.found 0 l.entries
