use Rattle.worker_crew.proofs.observer.Observer.add_end.Goals as goal

pub returns : goal.returns
returns c = record {
  changed = c.add_change.new.self;
  noted = c.note_or_forget.new.self;
  change = c.add_change.ensures;
  reasons = c.note_or_forget.ensures;
  wait = c.add_wait_change.ensures;
}
