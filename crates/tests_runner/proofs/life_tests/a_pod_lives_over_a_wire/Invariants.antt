-- The node has the table of the history that begins.
use Rattle.tests_runner.proofs.life_tests.a_pod_lives_over_a_wire.Given as goal

abbrev pub ghosts-served_by : goal.ghosts-served_by
ghosts-served_by g a = record { filter = a.begun.0; table = a.begun.1 }
