-- The node has the table of the history that begins.
use Rattle.tests_runner.proofs.thread_tests.a_long_script_holds_up_its_own_connection_alone.Given as goal

abbrev pub ghosts-most_answered : goal.ghosts-most_answered
ghosts-most_answered g a = record { filter = a.begun.0; table = a.begun.1 }
