use Rattle.std.proofs.Common.{List, ap, subst, sym, ◌∙◌}
use Rattle.runtime_cell.specs.Cell.{Cell}
use Rattle.registry.specs.Kept.{HasNoneIn}
use Rattle.runtime_history.specs.declared.event.Seen.{Seen}
use Rattle.runtime_history.specs.History.{Looks}
use Rattle.runtime_history.specs.Agreed.{MayRun}
use Rattle.runner.proofs.Started.{looks_for, not_in, still_in}
use Rattle.runner.proofs.rounds.step_known.Goals as goal

pub lose-requires-clause-none : goal.lose-requires-clause-none
lose-requires-clause-none g c =
    let moves = c.in-None.ensures.moves in
    subst (λ (cells : List Cell). HasNoneIn cells c.args.id) (sym moves.1) moves.0

pub returns-in-None-clause-may_run : goal.returns-in-None-clause-may_run
returns-in-None-clause-may_run g c = still_in c.args.id c.args.registered.now.1 c.look.new.self.1
    (ap (λ p. p.1) c.look.ensures.same ∙ c.lose.ensures.may_run)

pub returns-in-None-clause-steps : goal.returns-in-None-clause-steps
returns-in-None-clause-steps g c =
    let left = c.lose.new.self in
    let none = not_in c.args.id c.args.registered.now.1 left.1 c.lose.ensures.may_run in
    looks_for g.B.Node.filter c.args.me.now c.look.new.me (MayRun left.0 left.1) _ (λ i may. none i may.0)
    (subst (λ (old : Seen). Looks g.B.Node.filter old (MayRun left.0 left.1) c.look.new.me)
    c.in-None.ensures.none c.look.ensures.looks)
