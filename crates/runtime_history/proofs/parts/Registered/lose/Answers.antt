use Rattle.std.proofs.Common.{List, Some, inr, rules, ap, subst, sym, ◌∙◌}
use Rattle.runtime_cell.specs.Cell.{Cell}
use Rattle.registry.specs.declared.registry.Registry.{Registry}
use Rattle.registry.specs.Kept.{HasNoneIn, home_in}
use Rattle.runtime_history.specs.Agreed.{started_in, uid_by}
use Rattle.runtime_history.proofs.parts.Registered.lose.Goals as goal

pub forget-requires-clause-lent : goal.forget-requires-clause-lent
forget-requires-clause-lent g c =
    let uid = uid_by c.listed.inside.token.me.0.cells in
    let registry = ap (λ p. p.0) (sym c.self.view_is) in
    let own = ap (λ p. p.0) (sym c.listed.view_is) in
    let home = ap (λ (r : Registry). home_in r.homes c.args.id) (sym registry) ∙ c.requires.home ∙ ap Some own in
    let none = subst (λ (cells : List Cell). HasNoneIn cells c.args.id) (ap (λ p. p.1) (sym c.listed.view_is))
    c.requires.none in
    (uid, started_in c.self.inside.token.me.0.registry, search rules, inr (inr (home, none)))
