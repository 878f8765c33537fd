-- The names left out so far, followed by those of the other entries, are those of all.
use Rattle.std.proofs.Common.{◌≡◌, ◌++◌, drop}
use Rattle.std.specs.Prelude.{flat_map}
use Rattle.std.specs.List.{enumerate_from}
use Rattle.profile_template.specs.Resolved.{out_of_entry}
use Rattle.profile_template.proofs.left_out.left_out_of.Given as goal

abbrev pub invariant-loop-index : goal.invariant-loop-index
invariant-loop-index l = l.found.items ++ flat_map (out_of_entry l.calls l.default)
    (enumerate_from l.index (drop l.index l.entries))
    ≡ flat_map (out_of_entry l.calls l.default) (enumerate_from 0 l.entries)
