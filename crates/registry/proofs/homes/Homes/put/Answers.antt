use Rattle.std.proofs.Common.{◌∙◌, ◌==◌, ap, Some}
use mathlib.Core.Bool.{cond}
use Rattle.registry.specs.Kept.{as_bytes, home_in}
use Rattle.registry.proofs.HomeTexts.{home_changes}
use Rattle.registry.proofs.homes.Homes.put.Goals as goal

pub returns-clause-ok : goal.returns-clause-ok
returns-clause-ok c = λ i.
    home_changes c.args.id c.self.inside.map c.insert.new.self
    (Some c.in_ok-copy.copy) c.in_ok-insert.ensures.updates i
    ∙ ap (λ uid. cond (c.args.id == i) (Some uid) (home_in (as_bytes c.self.inside.map.entries) i))
    c.in_ok-copy.ensures.ok
    ∙ ap (λ homes. cond (c.args.id == i) (Some c.args.uid.now) (home_in homes i)) c.self.view_is
