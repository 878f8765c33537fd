use Rattle.tests_agent.proofs.node_lock_tests.parts.Given as goal

abbrev pub ghosts-parted : goal.ghosts-parted
ghosts-parted a = record { name = a.blank.name; parts = a.blank.parts }
