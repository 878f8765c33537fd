use Rattle.std.proofs.Common.{None}
use Rattle.std.specs.String.{string_bytes}
use Rattle.worker_core.specs.Slots.{slot_of}
use Rattle.worker_crew.specs.Observed.{IsWaitChange}
use Rattle.worker_crew.proofs.Changed.{adds_so, admits_waits_there, made_so, text_of, waits_there}
use Rattle.worker_crew.proofs.observer.Observer.add_first_waits.Goals as goal

pub returns-in-Some : goal.returns-in-Some
returns-in-Some c =
    let slot = slot_of c.args.uid.now c.args.node.now.slots in
    let reasons = c.args.self.now.reasons in
    admits_waits_there c.args.form c.args.moment slot _ c.in-Some.ensures.pod
    (adds_so (text_of (IsWaitChange c.args.form c.args.moment reasons slot None) c.waits_since-line.result
    (made_so c.waits_since-line.result
    (λ line is. waits_there c.args.form c.args.moment reasons slot _ _ None (string_bytes line)
    c.in-Some.ensures.pod c.in-Some.ensures.tracks is)
    c.waits_since-line.ensures)) c.add.ensures)
