-- The first `count` bytes were read.
use Rattle.std.proofs.Common.{◌≤◌, ◌-◌, length, take}
use Rattle.std.specs.Io.KnownBytes.{Consumes, Keeps}
use Rattle.cri_frames.proofs.moving.read_all.Given as goal

abbrev pub invariant-loop-count : goal.invariant-loop-count
invariant-loop-count g l = record {
  within : l.count ≤ length l.buf;
  some : Consumes (g.W.Wire.input l.fn.wire) (g.W.Wire.input l.wire) (take l.count l.buf);
  counted : g.W.Wire.failed l.fn.wire ≤ g.W.Wire.failed l.wire;
  output : Keeps (g.W.Wire.output l.fn.wire) (g.W.Wire.output l.wire);
}

abbrev pub decreases-loop-count : goal.decreases-loop-count
decreases-loop-count g l = length l.buf - l.count
