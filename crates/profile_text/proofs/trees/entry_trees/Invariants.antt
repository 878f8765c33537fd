-- The entries so far are written, and fit.
use Rattle.std.proofs.Common.{◌≡◌, map, take}
use Rattle.std.specs.List.{AllByRecursion}
use Rattle.serde_json.specs.View.{view}
use Rattle.profile_text.specs.Fits.{FitsEntry}
use Rattle.profile_text.specs.Written.{entry_tree}
use Rattle.profile_text.proofs.trees.entry_trees.Given as goal

abbrev pub invariant-loop-entry : goal.invariant-loop-entry
invariant-loop-entry l = (map view l.trees.items ≡ map (entry_tree l.calls) (take l.entry-index l.entries))
    × AllByRecursion FitsEntry (take l.entry-index l.entries)
