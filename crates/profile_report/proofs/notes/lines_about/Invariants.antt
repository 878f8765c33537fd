-- The lines so far, followed by those from here on, are all.
use Rattle.std.proofs.Common.{◌≡◌, ◌++◌, drop, map}
use Rattle.std.specs.Prelude.{string_bytes}
use Rattle.profile_report.specs.Notes.{found_lines, passed_lines}
use Rattle.profile_report.proofs.notes.lines_about.Given as goal

abbrev pub invariant-loop-item : goal.invariant-loop-item
invariant-loop-item l = map string_bytes l.lines.items ++ passed_lines l.calls l.about (drop l.item-index l.passed)
    ≡ passed_lines l.calls l.about l.passed

abbrev pub invariant-loop-finding : goal.invariant-loop-finding
invariant-loop-finding l = map string_bytes l.lines.items
    ++ found_lines l.calls l.about (drop l.finding-index l.found)
    ≡ passed_lines l.calls l.about l.passed ++ found_lines l.calls l.about l.found
