-- The value under the remaining steps is the value under all.
use Rattle.std.proofs.Common.{◌≡◌, map, drop}
use Rattle.serde_json.specs.View.{view}
use Rattle.json_place.specs.Places.{part_of}
use Rattle.json_place.specs.Shown.{stands_at}
use Rattle.json_place.proofs.shown.stands_at.Given as goal

abbrev pub invariant-loop-step : goal.invariant-loop-step
invariant-loop-step l = stands_at (map part_of (drop l.step-index l.step-items)) (view l.tree)
    ≡ stands_at l.fn.place (view l.fn.tree)
