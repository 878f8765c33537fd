use Rattle.std.proofs.Common.{◌∙◌, sym, ap, refl}
use Rattle.std.specs.Prelude.{option_copied}
use Rattle.runtime_core.proofs.ById.{kill_by_id, none_by_id, whole_by_id}
use Rattle.runtime_core.proofs.runtime.kill.Goals as goal

pub returns-in-Some-clause-kill : goal.returns-in-Some-clause-kill
returns-in-Some-clause-kill c = kill_by_id c.args.registry.now c.args.lists.now c.requires c.kill.new.self
    c.args.id c.in-Some.uid.now
    (sym c.home.ensures ∙ ap option_copied c.in-Some.is) c.kill.ensures.ids c.kill.ensures.listed
    c.kill.ensures.others c.args.code c.kill.result c.kill.ensures.moves

pub returns-in-Some-clause-whole : goal.returns-in-Some-clause-whole
returns-in-Some-clause-whole c = whole_by_id c.args.registry.now c.args.lists.now c.requires c.kill.new.self
    c.args.id c.in-Some.uid.now
    (sym c.home.ensures ∙ ap option_copied c.in-Some.is) c.kill.ensures.ids c.kill.ensures.listed
    c.kill.ensures.others

pub returns-in-None-clause-kill : goal.returns-in-None-clause-kill
returns-in-None-clause-kill c = (
  none_by_id c.args.registry.now c.args.lists.now c.requires c.args.id
      (sym c.home.ensures ∙ ap option_copied c.in-None.is),
  refl,
)
