use Rattle.std.proofs.Common.{◌∙◌, ◌==◌, ap, None}
use mathlib.Core.Bool.{cond}
use Rattle.registry.specs.Kept.{home_in}
use Rattle.registry.proofs.HomeTexts.{home_changes}
use Rattle.registry.proofs.homes.Homes.remove.Goals as goal

pub returns : goal.returns
returns c = λ i. home_changes c.args.id c.self.inside.map c.remove.new.self None c.remove.ensures.updates i
    ∙ ap (λ homes. cond (c.args.id == i) None (home_in homes i)) c.self.view_is
