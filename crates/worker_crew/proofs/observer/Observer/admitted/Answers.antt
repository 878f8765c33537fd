use Rattle.std.proofs.Common.{◌∙◌, ap, sym, subst}
use Rattle.worker_core.specs.Slots.{slot_of}
use Rattle.worker_crew.specs.Observed.{Admits}
use Rattle.worker_crew.proofs.observer.Observer.admitted.Goals as goal

pub returns-in-Changes : goal.returns-in-Changes
returns-in-Changes c =
    subst
    (λ observed. Admits observed c.args.moment (slot_of c.args.uid.now c.args.node.now.slots) c.args.self.now
    c.add_first.new.self)
    (sym (ap (λ beside. beside.observed) (sym c.self.view_is) ∙ c.in-Changes.is))
    c.add_first.ensures

pub returns-in-ChangesAndReasons : goal.returns-in-ChangesAndReasons
returns-in-ChangesAndReasons c =
    subst
    (λ observed. Admits observed c.args.moment (slot_of c.args.uid.now c.args.node.now.slots) c.args.self.now
    c.tell_first.new.self)
    (sym (ap (λ beside. beside.observed) (sym c.self.view_is) ∙ c.in-ChangesAndReasons.is))
    c.tell_first.ensures
