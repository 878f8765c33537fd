use Rattle.tests_agent.proofs.node_lock_tests.limits.Given as goal

abbrev pub ghosts-limited : goal.ghosts-limited
ghosts-limited a = record { name = a.blank.name; parts = a.blank.parts }
