use Rattle.tests_agent.proofs.node_lock_tests.agrees.Given as goal

abbrev pub ghosts-agreed-L-Ledger : goal.ghosts-agreed-L-Ledger
ghosts-agreed-L-Ledger a = record { name = a.blank.name; parts = a.blank.parts }

abbrev pub ghosts-agreed-M-Ledger : goal.ghosts-agreed-M-Ledger
ghosts-agreed-M-Ledger a = record { name = a.other.name; parts = a.other.parts }
