use Rattle.tests_agent.proofs.node_lock_tests.joins.Given as goal

abbrev pub ghosts-joined : goal.ghosts-joined
ghosts-joined a = record { name = a.blank.name; parts = a.blank.parts }
