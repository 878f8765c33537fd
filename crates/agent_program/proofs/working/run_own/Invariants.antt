-- The node's own filter comes from the line, its table from the history that begins.
use Rattle.agent_program.proofs.working.run_own.Given as goal

abbrev pub ghosts-run_beside : goal.ghosts-run_beside
ghosts-run_beside g a = record { filter = a.begun.0; table = a.begun.1 }
