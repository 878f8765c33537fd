-- The ledger comes from the blank, and the node's table from the history that begins.
use Rattle.agent_trials.proofs.report_tests.compares.Given as goal

abbrev pub ghosts-compared-L-Ledger : goal.ghosts-compared-L-Ledger
ghosts-compared-L-Ledger g a = record { name = a.blank.name; parts = a.blank.parts }

abbrev pub ghosts-compared-B-Node : goal.ghosts-compared-B-Node
ghosts-compared-B-Node g a = record { filter = a.node.0; table = a.node.1 }
