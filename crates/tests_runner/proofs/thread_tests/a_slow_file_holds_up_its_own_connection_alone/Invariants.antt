-- The node has the table of the history that begins.
use Rattle.tests_runner.proofs.thread_tests.a_slow_file_holds_up_its_own_connection_alone.Given as goal

abbrev pub ghosts-read_slowly : goal.ghosts-read_slowly
ghosts-read_slowly g a = record { filter = a.begun.0; table = a.begun.1 }
