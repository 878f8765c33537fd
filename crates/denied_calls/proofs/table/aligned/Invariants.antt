-- What was written, and the lines from here on, are all together.
use Rattle.std.proofs.Common.{◌≡◌, ◌++◌, drop, map, string_bytes}
use Rattle.denied_calls.specs.Table.{cells_of, lines_text, table_text}
use Rattle.denied_calls.proofs.table.aligned.Given as goal

abbrev pub invariant-loop-line : goal.invariant-loop-line
invariant-loop-line l = string_bytes l.text ++ lines_text l.widths (map cells_of (drop l.line-index l.lines))
    ≡ table_text (map cells_of l.lines)
