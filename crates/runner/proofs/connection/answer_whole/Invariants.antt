-- The frames so far were answered, and what is left after them is in the feed.
use Rattle.std.proofs.Common.{◌≤◌, [], length}
use Rattle.std.specs.Io.KnownBytes.{Keeps}
use Rattle.runner.specs.Connection.{Answers, Talk}
use Rattle.runner.specs.Gathered.{Gave}
use Rattle.runner.proofs.connection.answer_whole.Given as goal

abbrev pub invariant-loop-version : goal.invariant-loop-version
invariant-loop-version g l = record {
  talk : Talk (Answers (Gave l.fn.calls g.S.Files.held g.S.Files.failed)
      (Gave l.fn.calls g.P.Files.held g.P.Files.failed) g.H.Host.may) l.fn.service l.service
      l.fn.feed l.feed [] (g.W.Wire.output l.fn.wire) (g.W.Wire.output l.wire);
  counted : g.W.Wire.failed l.fn.wire ≤ g.W.Wire.failed l.wire;
  input : Keeps (g.W.Wire.input l.fn.wire) (g.W.Wire.input l.wire);
}

abbrev pub decreases-loop-version : goal.decreases-loop-version
decreases-loop-version g l = length l.feed
