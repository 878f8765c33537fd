use Rattle.std.proofs.Common.{arith}
use Rattle.std.proofs.KnownBytes.{Keeps-trans}
use Rattle.cri_frames.proofs.Moved.{read_more}
use Rattle.cri_frames.proofs.moving.read_all.Goals as goal

pub loop-count-preserved : goal.loop-count-preserved
loop-count-preserved g c = record {
  within = grind (arith, c.loop-count.invariant.within, c.in-Ok.ensures.within, c.read.ensures.room);
  some = read_more _ _ _ c.loop-count.buf c.read.new.buf c.loop-count.count _ c.in-Ok.more
      c.loop-count.invariant.within c.in-Ok.ensures.within c.loop-count.invariant.some
      c.in-Ok.ensures.input.0;
  counted = omega (arith, c.loop-count.invariant.counted, c.read.ensures.counted);
  output = Keeps-trans _ _ _ c.loop-count.invariant.output c.read.ensures.output;
}
