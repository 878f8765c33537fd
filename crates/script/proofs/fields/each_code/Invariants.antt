-- Reading the numbers from this one on after the codes so far returns what reading all of them does.
use Rattle.std.proofs.Common.{◌≡◌, [], drop}
use Rattle.json_tree.specs.Reading.{in_order_after}
use Rattle.script.specs.Reading.{code_at}
use Rattle.script.proofs.fields.each_code.Given as goal

abbrev pub invariant-loop-number : goal.invariant-loop-number
invariant-loop-number l = in_order_after code_at l.codes.items (drop l.number-index l.numbers)
    ≡ in_order_after code_at [] l.numbers
