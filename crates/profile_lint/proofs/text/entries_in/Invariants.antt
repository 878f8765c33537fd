-- The findings so far, followed by those about the entries from here on, are all of them.
use Rattle.std.proofs.Common.{◌≡◌, ◌++◌, drop, map}
use Rattle.std.specs.Prelude.{flat_map}
use Rattle.std.specs.List.{enumerate_from}
use Rattle.serde_json.specs.View.{view}
use Rattle.profile_lint.specs.Passed.{entry_at, told}
use Rattle.profile_lint.proofs.text.entries_in.Given as goal

abbrev pub invariant-loop-index : goal.invariant-loop-index
invariant-loop-index l = map told l.found.items
    ++ flat_map (entry_at l.calls) (enumerate_from l.index (map view (drop l.index l.items)))
    ≡ flat_map (entry_at l.calls) (enumerate_from 0 (map view l.items))
