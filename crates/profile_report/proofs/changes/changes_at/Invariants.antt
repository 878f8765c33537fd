-- What was written, followed by what is to be written from here on, is the whole text.
use Rattle.std.proofs.Common.{◌≡◌, ◌++◌, drop}
use Rattle.std.specs.Prelude.{string_bytes}
use Rattle.profile_report.specs.Changes.{changes_at}
use Rattle.profile_report.proofs.changes.changes_at.Given as goal

abbrev pub invariant-loop-line : goal.invariant-loop-line
invariant-loop-line l = string_bytes l.text ++ changes_at l.nr (drop l.line-index l.lines) ≡ changes_at l.nr l.lines
