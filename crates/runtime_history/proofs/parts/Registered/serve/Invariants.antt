use Rattle.std.proofs.Common.{Some}
use Rattle.cri_msgs.specs.Calls.{uid_of}
use Rattle.runtime_history.specs.declared.event.Event.TheVariants.{Served}
use Rattle.runtime_history.specs.History.{unseen}
use Rattle.runtime_history.specs.Agreed.{started_in, view, with_started}
use Rattle.runtime_history.proofs.parts.Registered.serve.Given as goal

abbrev pub ghosts-note_served : goal.ghosts-note_served
ghosts-note_served g a = record {
  baseline = g.B.Node.filter;
  event = Served g.Q.Asked.call g.Q.Asked.files a.answer.now;
  after = view (Some (a.registry.now, with_started a.started (started_in a.me.now.me.0.registry)))
      (Some (uid_of g.Q.Asked.call, a.cells.now)) unseen;
}
