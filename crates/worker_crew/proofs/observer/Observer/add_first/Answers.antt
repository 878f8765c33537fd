use Rattle.std.specs.String.{string_bytes}
use Rattle.worker_core.specs.Slots.{slot_of}
use Rattle.worker_crew.specs.Observed.{IsFirst}
use Rattle.worker_crew.proofs.Changed.{adds_so, admits_there, first_there, made_so, text_of}
use Rattle.worker_crew.proofs.observer.Observer.add_first.Goals as goal

pub returns-in-Some : goal.returns-in-Some
returns-in-Some c =
    let cs = c.args.self.now.counts in
    let slot = slot_of c.args.uid.now c.args.node.now.slots in
    admits_there c.args.form c.args.moment slot _ c.in-Some.ensures.pod
    (adds_so (text_of (IsFirst c.args.form c.args.moment cs slot) c.changes_since-line.result
    (made_so c.changes_since-line.result
    (λ line is. first_there c.args.form c.args.moment cs slot _ _ _ (string_bytes line)
    c.in-Some.ensures.pod c.in-Some.ensures.tracks c.in-Some.ensures.phase is)
    c.changes_since-line.ensures)) c.add.ensures)
