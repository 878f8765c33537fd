-- What was written, followed by what is to be written from here on, is the whole text.
use Rattle.std.proofs.Common.{◌≡◌, ◌++◌, drop}
use Rattle.std.specs.Prelude.{string_bytes}
use Rattle.profile_report.specs.Ways.{ways_at}
use Rattle.profile_report.proofs.ways.ways_at.Given as goal

abbrev pub invariant-loop-place : goal.invariant-loop-place
invariant-loop-place l = string_bytes l.text ++ ways_at l.count l.entries (drop l.place-index l.places)
    ≡ ways_at l.count l.entries l.places
