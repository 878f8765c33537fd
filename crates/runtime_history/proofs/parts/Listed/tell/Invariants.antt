use Rattle.std.proofs.Common.{Some, None}
use Rattle.cri_msgs.specs.Calls.{uid_of}
use Rattle.runtime_history.specs.declared.event.Event.TheVariants.{Served}
use Rattle.runtime_history.specs.History.{unseen}
use Rattle.runtime_history.specs.Agreed.{view}
use Rattle.runtime_history.proofs.parts.Listed.tell.Given as goal

abbrev pub ghosts-note_told : goal.ghosts-note_told
ghosts-note_told g a = record {
  baseline = g.B.Node.filter;
  event = Served g.Q.Asked.call g.Q.Asked.files a.answer.now;
  after = view None (Some (uid_of g.Q.Asked.call, a.cells.now)) unseen;
}
