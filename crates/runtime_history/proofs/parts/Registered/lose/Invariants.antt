use Rattle.runtime_history.proofs.parts.Registered.lose.Given as goal

abbrev pub ghosts-forget : goal.ghosts-forget
ghosts-forget g a = record { id = a.id }
