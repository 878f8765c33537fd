use Rattle.std.proofs.Common.{◌∙◌, ap}
use Rattle.std.specs.List.{list_any}
use Rattle.registry.specs.Runtime.{is_same}
use Rattle.registry.proofs.Sames.{same_any}
use Rattle.registry.proofs.used.Used.has.Goals as goal

pub returns : goal.returns
returns c = c.contains.ensures ∙ same_any c.args.container.now c.self.inside.set.keys
    ∙ ap (list_any (is_same c.args.container.now)) c.self.view_is
