-- The feed keeps one split of the stream, and each split has the same rest.
use Rattle.std.proofs.Common.{sym, subst}
use Rattle.cri_frames.specs.Streams.{HasBadRest}
use Rattle.cri_frames.proofs.OneSplit.{bad_rest, has_bad_rest}
use Rattle.cri_frames.proofs.feed.Feed.has_failed.Goals as goal

pub returns : goal.returns
returns c =
    let kept = c.self.invariant in (
      λ failed. subst HasBadRest c.self.view_is
          (has_bad_rest _ _ kept.each kept.begins_none (kept.failed_is.0 failed)),
      λ bad. kept.failed_is.1 (bad_rest c.self.inside.done.items c.self.inside.part.items kept.each
          kept.begins_none (subst HasBadRest (sym c.self.view_is) bad)),
    )
