-- No test of the table passes, so the search through it ends at its default.
use Rattle.std.proofs.Common.{arith}
use Rattle.action.specs.declared.action.Action.TheVariants.{KillProcess, KillThread, Trap, Errno, UserNotif}
use Rattle.action.specs.declared.action.Action.TheVariants.{Trace, Log, Allow}
use Rattle.action.specs.Verdict.{action_of}
use Rattle.action.proofs.laws.values_round_trip.Goals as goal

pub returns-clause-unknown : goal.returns-clause-unknown
unfolding action_of
returns-clause-unknown c value h =
    grind (arith, h KillProcess, h KillThread, h Trap, h Errno, h UserNotif, h Trace, h Log, h Allow)
