use Rattle.std.proofs.Common.{rules, subst, sym}
use Rattle.atomic_table.specs.Table.{Me}
use Rattle.runtime_history.specs.declared.room.View.{View}
use Rattle.runtime_history.specs.History.{Looks}
use Rattle.runtime_history.specs.Agreed.{MayRunIn, started_in}
use Rattle.runtime_history.proofs.parts.Registered.look.Goals as goal

pub see-requires-clause-lent : goal.see-requires-clause-lent
see-requires-clause-lent g c =
    (c.self.inside.registry, started_in c.self.inside.token.me.0.registry, search rules)

pub returns-clause-looks : goal.returns-clause-looks
returns-clause-looks g c =
    let seen = c.see.new.me.me.0.seen in
    let lent = subst (λ (m : Me (Unit {0}) View). Looks g.B.Node.filter m.0.seen (MayRunIn m.0.registry) seen)
    c.lend_registry.ensures.me.1 c.see.ensures.looked.looks in
    let known = subst (λ (m : Me (Unit {0}) View). Looks g.B.Node.filter c.me.inside.token.me.0.seen
    (MayRunIn m.0.registry) seen) c.self.invariant.1 lent in
    rw (sym c.me.view_is, sym c.self.view_is, c.registry_part.ensures.me.1) known
