-- What was written, followed by the tallies from here on, is the text of all.
use Rattle.std.proofs.Common.{◌≡◌, ◌++◌, drop, string_bytes}
use Rattle.cell_records.specs.RecordText.{other_tallies, tallies_text}
use Rattle.cell_records.proofs.line.tallies_text.Given as goal

abbrev pub invariant-loop-other : goal.invariant-loop-other
invariant-loop-other l = string_bytes l.text ++ other_tallies l.known (drop l.other-index l.others)
    ≡ tallies_text l.known l.tallies
