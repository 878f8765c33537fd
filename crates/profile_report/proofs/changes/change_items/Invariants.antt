-- What was written, followed by what is to be written from here on, is the whole text.
use Rattle.std.proofs.Common.{◌≡◌, ◌++◌, drop}
use Rattle.std.specs.Prelude.{string_bytes}
use Rattle.profile_report.specs.Changes.{change_items}
use Rattle.profile_report.proofs.changes.change_items.Given as goal

abbrev pub invariant-loop-line : goal.invariant-loop-line
invariant-loop-line l = string_bytes l.text ++ change_items l.calls (drop l.line-index l.lines)
    ≡ change_items l.calls l.lines
