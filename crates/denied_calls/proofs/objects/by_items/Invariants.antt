-- What was written, and the others from here on, are all together.
use Rattle.std.proofs.Common.{◌≡◌, ◌++◌, drop, string_bytes}
use Rattle.denied_calls.specs.Objects.{by_items, other_items}
use Rattle.denied_calls.proofs.objects.by_items.Given as goal

abbrev pub invariant-loop-other : goal.invariant-loop-other
invariant-loop-other l = string_bytes l.text ++ other_items (drop l.other-index l.others)
    ≡ by_items l.deciders
