use Rattle.std.proofs.Common.{◌∙◌, sym, ap}
use Rattle.registry.specs.Kept.{known_in}
use Rattle.registry.proofs.Texts.{found}
use Rattle.registry.proofs.uids.Uids.get.Goals as goal

pub returns : goal.returns
returns c = c.get.ensures.value ∙ sym (found c.args.uid.now c.self.inside.map.entries)
    ∙ ap (λ entries. known_in entries c.args.uid.now) c.self.view_is
