use Rattle.std.proofs.Common.{◌∙◌, ◌==◌, ap, refl, None}
use mathlib.Core.Bool.{cond}
use Rattle.registry.proofs.Placing.{nothing_changes, undone}
use Rattle.registry.proofs.registry.Registry.place.Goals as goal

pub returns-in-Err-add-clause-err : goal.returns-in-Err-add-clause-err
returns-in-Err-add-clause-err c = record {
  known = nothing_changes c.args.self.now.uids c.add.new.self c.as_str-in-Ok.result.now
      c.in-Err-add.ensures.err;
  home = λ bound i. c.remove.ensures i ∙ ap (cond (c.args.id == i) None) (c.in-Ok.ensures.ok i)
      ∙ undone c.args.self.now c.args.id i c.as_str.result.now bound c.requires;
  made = refl;
  baseline = refl;
}
