use Rattle.std.proofs.Common.{subst, sym}
use Rattle.call_names.specs.Marks.{Reaches}
use Rattle.call_names.proofs.Marking.{reaches_after}
use Rattle.call_names.proofs.comparing.mark_reached.Goals as goal
use Rattle.call_names.proofs.comparing.mark_reached.Goals.{then-reached-at, else-reached-at}

pub loop-at-preserved : goal.loop-at-preserved
loop-at-preserved c = elim c.if-reached-at.branch [
  | then-reached-at w ↦ subst (Reaches c.args.code.now) (sym w.reached-is)
      (reaches_after c.args.code.now c.loop-at.reached w.mark_next.new.others c.loop-at.at _
      c.loop-at-test.true w.if-reached-at.true w.mark_next.ensures c.loop-at.invariant)
  | else-reached-at w ↦ subst (Reaches c.args.code.now) (sym w.reached-is) c.loop-at.invariant
]
