-- The frames so far, and what is left of the bytes, are the stream; none of the frames from before is lost.
use Rattle.std.proofs.Common.{◌≡◌, ◌≤◌, ◌-◌, drop, length, take}
use Rattle.std.specs.List.{AllByRecursion}
use Rattle.cri_frames.specs.Streams.{IsFrame, stream_of}
use Rattle.cri_frames.proofs.splitting.split.Given as goal

abbrev pub invariant-loop-version : goal.invariant-loop-version
invariant-loop-version l = record {
  same : stream_of l.done.items (drop l.at l.bytes) ≡ stream_of l.fn.done.items l.bytes;
  within : l.at ≤ length l.bytes;
  each : AllByRecursion IsFrame l.done.items;
  kept : take (length l.fn.done.items) l.done.items ≡ l.fn.done.items;
}

abbrev pub decreases-loop-version : goal.decreases-loop-version
decreases-loop-version l = length l.bytes - l.at
