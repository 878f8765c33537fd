use Rattle.std.proofs.Common.{◌≡◌, ◌<◌, length, subst, ap, ◌∙◌, rules}
use Rattle.std.proofs.lemmas.List.Edits.{map_over_more}
use Rattle.std.specs.List.{slice_set}
use Rattle.worker_core.specs.declared.order.Due.{Due}
use Rattle.worker_core.specs.Order.{closed_up, without}
use Rattle.worker_core.proofs.order.close.Goals as goal

pub loop-due-preserved : goal.loop-due-preserved
loop-due-preserved c =
    let same : c.deref_mut-due-items.result.now ≡ without c.args.gone c.args.order.now.items =
    c.deref_mut-due-items.ensures.value ∙ c.take_out.ensures.order in
    let inside : c.loop-due.due-index < length (without c.args.gone c.args.order.now.items) =
    subst (λ l. c.loop-due.due-index < length l) same c.loop-due-test.true in
    ap (λ (d : Due). slice_set c.loop-due.due-items c.loop-due.due-index d) c.close_up.ensures
    ∙ map_over_more (closed_up c.args.gone) (without c.args.gone c.args.order.now.items) c.loop-due.due-items
    c.loop-due.due-index _ inside c.loop-due.invariant (search rules)
