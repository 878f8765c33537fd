use Rattle.worker_crew.proofs.observer.Observer.tell_first.Goals as goal

pub returns : goal.returns
returns c = record {
  changed = c.add_first.new.self;
  change = c.add_first.ensures;
  wait = c.add_first_waits.ensures;
}
