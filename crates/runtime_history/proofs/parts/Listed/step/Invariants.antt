use Rattle.std.proofs.Common.{Some, None}
use Rattle.runtime_history.specs.declared.event.Event.TheVariants.{Stepped}
use Rattle.runtime_history.specs.History.{unseen}
use Rattle.runtime_history.specs.Agreed.{uid_by, view}
use Rattle.runtime_history.proofs.parts.Listed.step.Given as goal

abbrev pub ghosts-note_stepped : goal.ghosts-note_stepped
ghosts-note_stepped g a = record {
  baseline = g.B.Node.filter;
  event = Stepped a.id a.did;
  after = view None (Some (uid_by a.me.now.me.0.cells, a.cells.now)) unseen;
}
