use Rattle.node_trials.proofs.books.run_trial.Given as goal

abbrev pub ghosts-recorded : goal.ghosts-recorded
ghosts-recorded a = record { name = a.blank.name; parts = a.blank.parts }

abbrev pub ghosts-joined : goal.ghosts-joined
ghosts-joined a = record { name = a.blank.name; parts = a.blank.parts }

abbrev pub ghosts-audited : goal.ghosts-audited
ghosts-audited a = record { name = a.blank.name; parts = a.blank.parts }
