-- The ledger comes from the blank, and the node's table from the history that begins.
use Rattle.agent_trials.proofs.crew_tests.held_up.Given as goal

abbrev pub ghosts-entries_at_call-L-Ledger : goal.ghosts-entries_at_call-L-Ledger
ghosts-entries_at_call-L-Ledger g a = record { name = a.blank.name; parts = a.blank.parts }

abbrev pub ghosts-entries_at_call-B-Node : goal.ghosts-entries_at_call-B-Node
ghosts-entries_at_call-B-Node g a = record { filter = a.node.0; table = a.node.1 }
