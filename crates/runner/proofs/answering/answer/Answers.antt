-- One frame and its reply are a talk.
use Rattle.std.proofs.Common.{[], sym, append-nil}
use Rattle.runner.proofs.Exits.{on_err, on_err_too, on_ok_too}
use Rattle.runner.proofs.Talks.{no_talk_since, one_talk}
use Rattle.runner.proofs.answering.answer.Goals as goal

pub returns-in_err-reply-clause-cut : goal.returns-in_err-reply-clause-cut
returns-in_err-reply-clause-cut g c =
    on_err c.from_residual.result (record {
      left = _;
      unwritten = [];
      talk =
          no_talk_since _ c.args.service.now c.reply_to.new.service _ _ c.in_err-reply.ensures.err;
    })

pub returns-clause-ok : goal.returns-clause-ok
returns-clause-ok g c =
    on_ok_too c.send.result
    (λ sent. one_talk _ c.args.service.now c.reply_to.new.service _ _
    [] _ _ c.requires c.in_ok-reply.ensures.reply (sym (append-nil _)) sent)
    c.send.ensures.ok

pub returns-clause-cut : goal.returns-clause-cut
returns-clause-cut g c =
    on_err_too c.send.result
    (λ part. record {
      left = [];
      unwritten = part.unwritten;
      talk = one_talk _ c.args.service.now c.reply_to.new.service _ part.written part.unwritten _ _
          c.requires c.in_ok-reply.ensures.reply part.whole part.sent;
    })
    c.send.ensures.cut
