-- The node has the table of the history that begins.
use Rattle.tests_runner.proofs.thread_tests.sandboxes_have_locks_of_their_own.Given as goal

abbrev pub ghosts-held_up : goal.ghosts-held_up
ghosts-held_up g a = record { filter = a.begun.0; table = a.begun.1 }
