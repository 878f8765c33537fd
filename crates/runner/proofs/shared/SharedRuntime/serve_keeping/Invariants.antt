-- The call and the files are those of the request.
use Rattle.runner.proofs.shared.SharedRuntime.serve_keeping.Given as goal

abbrev pub ghosts-serve_asked : goal.ghosts-serve_asked
ghosts-serve_asked g a = record { call = a.request.call; files = a.files }
