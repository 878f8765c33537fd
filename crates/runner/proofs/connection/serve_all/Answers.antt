-- One more read, and what it adds.
use Rattle.std.proofs.Common.{◌≡◌, List, [], ◌++◌, sym, ap, ◌∙◌, subst, arith, append-nil}
use Rattle.std.proofs.KnownBytes.{Consumes-nil}
use Rattle.cri_frames.specs.Frames.{BeginsNone}
use Rattle.cri_frames.specs.Streams.{HasBadRest}
use Rattle.runner.proofs.Connections.{answers_more, cut_answering, cut_reading, reads_more, whole}
use Rattle.runner.proofs.Exits.{on_err}
use Rattle.runner.proofs.Talks.{bad_left, has_bad_left, no_talk_in, nothing_begins_none, nothing_is_good}
use Rattle.runner.proofs.connection.serve_all.Goals as goal

pub loop-init : goal.loop-init
loop-init g c = record {
  talk = ([], Consumes-nil _, no_talk_in _ c.args.service.now c.new-feed.result _ c.new-feed.ensures);
  begins_none = subst BeginsNone (sym c.new-feed.ensures) nothing_begins_none;
  good = λ bad. nothing_is_good (subst HasBadRest c.new-feed.ensures bad);
  counted = omega arith;
}

pub returns-in_err-read_piece-clause-cut : goal.returns-in_err-read_piece-clause-cut
returns-in_err-read_piece-clause-cut g c =
    on_err c.from_residual.result
    (cut_reading _ c.args.service.now _ _ c.loop.service c.loop.feed _ _ _ _ c.loop.invariant.talk
    c.in_err-read_piece.ensures.cut c.read_piece.ensures.output)

pub returns-then-branch-eq0-clause-ending : goal.returns-then-branch-eq0-clause-ending
returns-then-branch-eq0-clause-ending g c =
    let kept = c.loop.invariant in
    let read = c.in_ok-read_piece.ensures.ok in
    let same : c.loop.feed ≡ c.loop.feed ++ read.more =
    sym (ap (λ (more : List _). c.loop.feed ++ more) (read.none c.if-branch-eq0.true)
    ∙ append-nil c.loop.feed) in (
      read.end c.if-branch-eq0.true,
      whole _ c.args.service.now _ _ c.loop.service c.loop.feed _ _ _
          (reads_more _ c.args.service.now _ _ c.loop.service c.loop.feed read.more c.loop.feed _ _ _ _
          kept.talk same read.taken c.read_piece.ensures.output)
          kept.begins_none
          (λ bad. kept.good (has_bad_left c.loop.feed kept.begins_none bad)),
    )

pub returns-in_err-answer_whole-clause-cut : goal.returns-in_err-answer_whole-clause-cut
returns-in_err-answer_whole-clause-cut g c =
    let read = c.in_ok-read_piece.ensures.ok in
    let so = reads_more _ c.args.service.now _ _ c.loop.service c.loop.feed read.more c.read_piece.new.feed _
    _ _ _ c.loop.invariant.talk read.added read.taken c.read_piece.ensures.output in
    on_err c.from_residual-in_err-answer_whole.result
    (cut_answering _ c.args.service.now _ _ c.loop.service c.answer_whole.new.service c.read_piece.new.feed _
    _ _ _ so c.in_err-answer_whole.ensures.cut c.answer_whole.ensures.input)

pub returns-then-has_failed-clause-ending : goal.returns-then-has_failed-clause-ending
returns-then-has_failed-clause-ending g c =
    let read = c.in_ok-read_piece.ensures.ok in
    let so = reads_more _ c.args.service.now _ _ c.loop.service c.loop.feed read.more c.read_piece.new.feed _
    _ _ _ c.loop.invariant.talk read.added read.taken c.read_piece.ensures.output in
    let answered = c.in_ok-answer_whole.ensures in
    whole _ c.args.service.now _ _ c.answer_whole.new.service c.answer_whole.new.feed _ _ _
    (answers_more _ c.args.service.now _ _ c.loop.service c.answer_whole.new.service c.read_piece.new.feed
    c.answer_whole.new.feed _ _ _ _ so answered.ok c.answer_whole.ensures.input)
    answered.begins_none
    (bad_left c.answer_whole.new.feed answered.begins_none (c.has_failed.ensures.0 c.if-has_failed.true))

pub loop-preserved : goal.loop-preserved
loop-preserved g c =
    let read = c.in_ok-read_piece.ensures.ok in
    let so = reads_more _ c.args.service.now _ _ c.loop.service c.loop.feed read.more c.read_piece.new.feed _
    _ _ _ c.loop.invariant.talk read.added read.taken c.read_piece.ensures.output in
    let answered = c.in_ok-answer_whole.ensures in
    record {
      talk = answers_more _ c.args.service.now _ _ c.loop.service c.answer_whole.new.service
          c.read_piece.new.feed c.answer_whole.new.feed _ _ _ _ so answered.ok c.answer_whole.ensures.input;
      begins_none = answered.begins_none;
      good = λ bad. (let told = c.has_failed.ensures.1 bad in let other = c.if-has_failed.false in cc);
      counted = omega (
        arith,
        c.loop.invariant.counted,
        c.read_piece.ensures.counted,
        c.answer_whole.ensures.counted,
      );
    }
