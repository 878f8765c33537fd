use Rattle.std.proofs.Common.{◌-◌, arith, length, length-drop, length-take, drop, take}
use Rattle.std.proofs.lemmas.List.{take_rest}
use Rattle.std.proofs.KnownBytes.{Keeps-trans}
use Rattle.cri_frames.proofs.Moved.{written_more}
use Rattle.cri_frames.proofs.moving.write_all.Goals as goal

pub loop-count-preserved : goal.loop-count-preserved
loop-count-preserved g c =
    let bytes = c.args.bytes.now in
    let count = c.loop-count.count in
    let left = take (length bytes - count) (drop count bytes) in
    record {
      within = omega (
        arith,
        c.in-Ok.ensures.within,
        length-take (length bytes - count) (drop count bytes),
        length-drop count bytes,
      );
      some = written_more _ _ _ bytes left count c.in-Ok.more
          (take_rest bytes count) c.loop-count.invariant.some c.in-Ok.ensures.output;
      counted = omega (arith, c.loop-count.invariant.counted, c.write.ensures.counted);
      input = Keeps-trans _ _ _ c.loop-count.invariant.input c.write.ensures.input;
    }
