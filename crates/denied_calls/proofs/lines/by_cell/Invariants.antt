-- What was written, and the others from here on, are all together.
use Rattle.std.proofs.Common.{◌≡◌, ◌++◌, drop, string_bytes}
use Rattle.denied_calls.specs.Lines.{by_text, others_text}
use Rattle.denied_calls.proofs.lines.by_cell.Given as goal

abbrev pub invariant-loop-other : goal.invariant-loop-other
invariant-loop-other l = string_bytes l.text ++ others_text (drop l.other-index l.others)
    ≡ by_text l.deciders
