use Rattle.std.proofs.Common.{Some, None}
use Rattle.runtime_history.specs.declared.event.Event.TheVariants.{Served}
use Rattle.runtime_history.specs.History.{unseen}
use Rattle.runtime_history.specs.Agreed.{started_in, view}
use Rattle.runtime_history.proofs.parts.Registered.refuse.Given as goal

abbrev pub ghosts-note_absent : goal.ghosts-note_absent
ghosts-note_absent g a = record {
  baseline = g.B.Node.filter;
  event = Served g.Q.Asked.call g.Q.Asked.files a.answer.now;
  after = view (Some (a.registry.now, started_in a.me.now.me.0.registry)) None unseen;
}
