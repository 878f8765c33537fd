-- What was written, and the cells from here on, are all together.
use Rattle.std.proofs.Common.{◌≡◌, ◌++◌, drop, map, string_bytes}
use Rattle.denied_calls.specs.Table.{line_text}
use Rattle.denied_calls.proofs.table.add_line.Given as goal

abbrev pub invariant-loop-column : goal.invariant-loop-column
invariant-loop-column l = string_bytes l.text
    ++ line_text l.widths l.column (map string_bytes (drop l.column l.line))
    ≡ string_bytes l.initial.text ++ line_text l.widths 0 (map string_bytes l.line)
