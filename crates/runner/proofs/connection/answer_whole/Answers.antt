-- One more frame.
use Rattle.std.proofs.Common.{[], arith}
use Rattle.std.proofs.KnownBytes.{Keeps-refl, Keeps-trans}
use Rattle.runner.proofs.Exits.{on_err}
use Rattle.runner.proofs.Talks.{no_talk, talk_next}
use Rattle.runner.proofs.connection.answer_whole.Goals as goal

pub loop-version-init : goal.loop-version-init
loop-version-init g c = record {
  talk = no_talk _ c.args.service.now c.args.feed.now _;
  counted = omega arith;
  input = Keeps-refl _;
}

pub loop-version-preserved : goal.loop-version-preserved
loop-version-preserved g c =
    let kept = c.loop-version.invariant in
    let told = rw c.as_slice.ensures.value at c.in_ok-answer.ensures.ok in
    record {
      talk = talk_next _ c.args.service.now c.loop-version.service c.answer.new.service _ _ _ _ []
          [] _ _ _ c.in-Some.ensures.first kept.talk told;
      counted = omega (arith, kept.counted, c.answer.ensures.counted);
      input = Keeps-trans _ _ _ kept.input c.answer.ensures.input;
    }

pub returns-in_err-answer-clause-cut : goal.returns-in_err-answer-clause-cut
returns-in_err-answer-clause-cut g c =
    let told = rw c.as_slice.ensures.value at c.in_err-answer.ensures.cut in
    on_err c.from_residual.result (record {
      left = _;
      unwritten = told.unwritten;
      talk = talk_next _ c.args.service.now c.loop-version.service c.answer.new.service _ _ _ _ told.left
          told.unwritten _ _ _ c.in-Some.ensures.first c.loop-version.invariant.talk told.talk;
    })
