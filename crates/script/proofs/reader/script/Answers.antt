use Rattle.std.proofs.Common.{map, arith}
use Rattle.std.proofs.lemmas.List.{length-map}
use Rattle.serde_json.specs.View.{view}
use Rattle.script.specs.Script.{IsStep}
use Rattle.script.proofs.First.{length_both, sound_steps}
use Rattle.script.proofs.reader.script.Goals as goal

pub new-requires-clause-few : goal.new-requires-clause-few
new-requires-clause-few c = omega (
  arith,
  length_both (IsStep c.args.calls) (map view c.in_ok-items.items.now) c.in_ok-steps.steps.items
      c.in_ok-steps.ensures.found,
  length-map c.in_ok-items.items.now view,
  c.in_ok-items.ensures.few,
)

pub new-requires-clause-sound : goal.new-requires-clause-sound
new-requires-clause-sound c = sound_steps c.args.calls _ c.in_ok-steps.steps.items c.in_ok-steps.ensures.found
