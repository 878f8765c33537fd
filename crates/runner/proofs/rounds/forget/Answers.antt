use Rattle.std.proofs.Common.{◌∙◌, List, ℕ, if◌then◌else◌, sym, ap, subst}
use Rattle.runtime_history.specs.Agreed.{without}
use Rattle.runner.specs.Labelled.{AreDue}
use Rattle.runner.proofs.Started.{due_less}
use Rattle.runner.proofs.rounds.forget.Goals as goal

pub returns-then-is_over-clause-due : goal.returns-then-is_over-clause-due
returns-then-is_over-clause-due g c =
    let ids = c.args.registered.now.1 in
    let fewer = c.forget_in-is_over.ensures.may_run
    ∙ ap (λ b. if b then without c.args.id ids else ids) c.if-is_over.true in
    subst (λ (left : List ℕ). AreDue left c.remove.new.self) (sym fewer)
    (due_less ids c.args.id c.args.due.now c.remove.new.self c.requires.due c.remove.ensures.lacks
    c.remove.ensures.kept)
