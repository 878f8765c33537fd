use Rattle.std.proofs.Common.{◌++◌, subst, sym, vec_capacity}
use Rattle.node_lock.specs.Books.{Books}
use Rattle.node_lock.specs.Histories.{EndsAt}
use Rattle.node_lock.proofs.Histories.{ends_pushed, fits, kept_on}
use Rattle.node_lock.proofs.books.Book.record.Goals as goal

-- the entry, and the node after it
pub invariant_of-self-2 : goal.invariant_of-self-2
invariant_of-self-2 g c =
    let old = c.self.inside in
    let entered = c.in_ok-entry.ensures in
    kept_on old.settings old.before old.history.items _ old.whole.entries _ old.node _ c.args.event
    c.in_ok-entry.entry _ _ old.limit (vec_capacity old.history) _ c.ahead-ahead.result
    c.self.invariant entered.step entered.event entered.history c.and-self-inside.ensures c.add.ensures.total entered.held
    (fits _ c.args.self.now c.args.event c.ahead-ahead.result c.has_room.result c.self.view_is
    c.ahead-ahead.ensures c.has_room.ensures c.if-not-has_room.false)
    entered.room

pub returns-clause-goes_on : goal.returns-clause-goes_on
returns-clause-goes_on g c = λ gone ends.
    let old = c.self.inside in
    let entered = c.in_ok-entry.ensures in
    ends_pushed old.settings gone old.history.items _ old.node _ c.args.event c.in_ok-entry.entry
    (subst (λ (b : Books). EndsAt b.settings (gone ++ b.history) b.node) (sym c.self.view_is) ends)
    entered.step entered.event entered.history
