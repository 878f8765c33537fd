-- The entries so far are written, and fit.
use Rattle.std.proofs.Common.{◌≡◌, ◌++◌, drop, map, take}
use Rattle.std.specs.Prelude.{filter_map}
use Rattle.std.specs.List.{AllByRecursion}
use Rattle.serde_json.specs.View.{view}
use Rattle.profile_text.specs.Fits.{FitsNamed}
use Rattle.profile_text.specs.Named.{named_tree}
use Rattle.profile_text.proofs.named.entry_trees.Given as goal

abbrev pub invariant-loop-entry : goal.invariant-loop-entry
invariant-loop-entry l = (map view l.trees.items
    ++ filter_map (named_tree l.calls l.default) (drop l.entry-index l.entries)
    ≡ filter_map (named_tree l.calls l.default) l.entries) × AllByRecursion FitsNamed (take l.entry-index l.entries)
