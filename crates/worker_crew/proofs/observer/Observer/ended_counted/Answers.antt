use Rattle.std.proofs.Common.{◌∙◌, ap, sym, subst}
use Rattle.worker_crew.specs.Observed.{EndsCounted}
use Rattle.worker_crew.proofs.observer.Observer.ended_counted.Goals as goal

pub returns-in-Changes : goal.returns-in-Changes
returns-in-Changes c =
    subst
    (λ observed. EndsCounted observed c.args.moment c.args.node.now c.args.entry.now.event c.args.cause c.args.before.now.call
    c.args.before.now.seen c.args.before.now.waits c.args.self.now c.add_change.new.self)
    (sym (ap (λ beside. beside.observed) (sym c.self.view_is) ∙ c.in-Changes.is))
    c.add_change.ensures

pub returns-in-ChangesAndReasons : goal.returns-in-ChangesAndReasons
returns-in-ChangesAndReasons c =
    subst
    (λ observed. EndsCounted observed c.args.moment c.args.node.now c.args.entry.now.event c.args.cause c.args.before.now.call
    c.args.before.now.seen c.args.before.now.waits c.args.self.now c.add_end.new.self)
    (sym (ap (λ beside. beside.observed) (sym c.self.view_is) ∙ c.in-ChangesAndReasons.is))
    c.add_end.ensures
