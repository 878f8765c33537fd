-- The node has the table of the history that begins.
use Rattle.tests_runner.proofs.round_tests.rounds_step_their_shares.Given as goal

abbrev pub ghosts-first_wrong : goal.ghosts-first_wrong
ghosts-first_wrong g a = record { filter = a.begun.0; table = a.begun.1 }
