-- The node has the table of the history that begins.
use Rattle.tests_runner.proofs.life_tests.a_failure_ends_its_connection_alone.Given as goal

abbrev pub ghosts-first_not_alone : goal.ghosts-first_not_alone
ghosts-first_not_alone g a = record { filter = a.begun.0; table = a.begun.1 }
