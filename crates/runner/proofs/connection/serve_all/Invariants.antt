-- All that was read was answered, except what is in the feed.
use Rattle.std.proofs.Common.{ℕ, ◌≤◌, List, []}
use Rattle.std.specs.Io.KnownBytes.{Consumes}
use Rattle.cri_frames.specs.Frames.{BeginsNone}
use Rattle.cri_frames.specs.Streams.{HasBadRest}
use Rattle.runner.specs.Connection.{Answers, Talk}
use Rattle.runner.specs.Gathered.{Gave}
use Rattle.runner.proofs.connection.serve_all.Given as goal

abbrev pub invariant-loop : goal.invariant-loop
invariant-loop g l = record {
  talk : (came : List ℕ) × Consumes (g.W.Wire.input l.fn.wire) (g.W.Wire.input l.wire) came
      × Talk (Answers (Gave l.fn.calls g.S.Files.held g.S.Files.failed)
      (Gave l.fn.calls g.P.Files.held g.P.Files.failed) g.H.Host.may) l.fn.service l.service
      came l.feed [] (g.W.Wire.output l.fn.wire) (g.W.Wire.output l.wire);
  begins_none : BeginsNone l.feed;
  good : HasBadRest l.feed → ⊥;
  counted : g.W.Wire.failed l.fn.wire ≤ g.W.Wire.failed l.wire;
}
