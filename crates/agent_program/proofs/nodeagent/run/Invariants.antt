-- The ledger has the name and the parts of the blank.
use Rattle.agent_program.proofs.nodeagent.run.Given as goal

abbrev pub ghosts-run_line : goal.ghosts-run_line
ghosts-run_line g a = record { name = a.blank.name; parts = a.blank.parts }
