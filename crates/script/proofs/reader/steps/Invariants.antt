-- The items so far are these steps.
use Rattle.std.proofs.Common.{map, take}
use Rattle.serde_json.specs.View.{view}
use Rattle.json_tree.specs.Reading.{Both}
use Rattle.script.specs.Script.{IsStep}
use Rattle.script.proofs.reader.steps.Given as goal

abbrev pub invariant-loop-item : goal.invariant-loop-item
invariant-loop-item l = Both (IsStep l.calls) (map view (take l.item-index l.items)) l.steps.items
