use Rattle.std.proofs.Common.{ap}
use Rattle.runtime_cell.specs.Cell.{Cell}
use Rattle.seccheck_output.proofs.Plays.{ended}
use Rattle.seccheck_output.proofs.playing.play.Goals as goal

pub returns : goal.returns
returns c = ended c.args.script c.args.stack.filters c.args.attempt c.in_ok-cell.cell c.play_out-code.new.cell
    c.play_out-code.result
    (ap (λ (cell : Cell). cell.making) c.in_ok-cell.ensures) c.play_out-code.ensures.kept
    c.play_out-code.ensures.ends c.play_out-code.ensures.follows
