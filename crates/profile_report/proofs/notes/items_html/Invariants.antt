-- What was written, followed by the items from here on, is the whole list.
use Rattle.std.proofs.Common.{◌≡◌, ◌++◌, drop, map}
use Rattle.std.specs.Prelude.{string_bytes}
use Rattle.profile_report.specs.Notes.{items_html}
use Rattle.profile_report.proofs.notes.items_html.Given as goal

abbrev pub invariant-loop-line : goal.invariant-loop-line
invariant-loop-line l = string_bytes l.text ++ items_html (map string_bytes (drop l.line-index l.lines))
    ≡ items_html (map string_bytes l.lines)
