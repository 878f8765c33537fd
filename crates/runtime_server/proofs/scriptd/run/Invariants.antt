-- The node's own filter comes from the line, its table from the history that begins.
use Rattle.runtime_server.proofs.scriptd.run.Given as goal

abbrev pub ghosts-run_line : goal.ghosts-run_line
ghosts-run_line g a = record { filter = a.begun.0; table = a.begun.1 }
