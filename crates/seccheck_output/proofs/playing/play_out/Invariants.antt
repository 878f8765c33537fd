use Rattle.std.proofs.Common.{◌≡◌, length}
use Rattle.seccheck_output.specs.Playing.{IsPlaying}
use Rattle.seccheck_output.proofs.Plays.{steps_left}
use Rattle.seccheck_output.proofs.playing.play_out.Given as goal

abbrev pub invariant-loop-code : goal.invariant-loop-code
invariant-loop-code l = (l.cell.making ≡ l.initial.cell.making) × IsPlaying l.cell.state

abbrev pub decreases-loop-code : goal.decreases-loop-code
decreases-loop-code l = steps_left l.cell.state (length l.cell.making.script) (length l.cell.entries)
