use Rattle.std.proofs.Common.{◌∙◌, sym, ap, refl}
use Rattle.std.specs.Prelude.{option_copied}
use Rattle.runtime_core.proofs.ById.{step_by_id, none_by_id, whole_by_id}
use Rattle.runtime_core.proofs.runtime.step.Goals as goal

pub returns-in-Some-clause-step : goal.returns-in-Some-clause-step
returns-in-Some-clause-step c = step_by_id c.args.registry.now c.args.lists.now c.requires c.step.new.self
    c.args.id c.in-Some.uid.now
    (sym c.home.ensures ∙ ap option_copied c.in-Some.is) c.step.ensures.ids c.step.ensures.listed
    c.step.ensures.others c.step.result c.step.ensures.moves

pub returns-in-Some-clause-whole : goal.returns-in-Some-clause-whole
returns-in-Some-clause-whole c = whole_by_id c.args.registry.now c.args.lists.now c.requires c.step.new.self
    c.args.id c.in-Some.uid.now
    (sym c.home.ensures ∙ ap option_copied c.in-Some.is) c.step.ensures.ids c.step.ensures.listed
    c.step.ensures.others

pub returns-in-None-clause-step : goal.returns-in-None-clause-step
returns-in-None-clause-step c = (
  none_by_id c.args.registry.now c.args.lists.now c.requires c.args.id
      (sym c.home.ensures ∙ ap option_copied c.in-None.is),
  refl,
)
