-- The ledger comes from the blank, and the node's table from the history that begins.
use Rattle.agent_trials.proofs.crew_tests.tried.Given as goal

abbrev pub ghosts-settled-L-Ledger : goal.ghosts-settled-L-Ledger
ghosts-settled-L-Ledger g a = record { name = a.blank.name; parts = a.blank.parts }

abbrev pub ghosts-settled-B-Node : goal.ghosts-settled-B-Node
ghosts-settled-B-Node g a = record { filter = a.node.0; table = a.node.1 }
