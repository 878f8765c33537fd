-- The first `count` bytes were written.
use Rattle.std.proofs.Common.{◌≤◌, ◌-◌, length, take}
use Rattle.std.specs.Io.KnownBytes.{Appends, Keeps}
use Rattle.cri_frames.proofs.moving.write_all.Given as goal

abbrev pub invariant-loop-count : goal.invariant-loop-count
invariant-loop-count g l = record {
  within : l.count ≤ length l.bytes;
  some : Appends (g.W.Wire.output l.fn.wire) (g.W.Wire.output l.wire) (take l.count l.bytes);
  counted : g.W.Wire.failed l.fn.wire ≤ g.W.Wire.failed l.wire;
  input : Keeps (g.W.Wire.input l.fn.wire) (g.W.Wire.input l.wire);
}

abbrev pub decreases-loop-count : goal.decreases-loop-count
decreases-loop-count g l = length l.bytes - l.count
