use Rattle.cri_frames.proofs.NotReplied.{not_replied}
use Rattle.cri_frames.proofs.calls.call_over.Goals as goal

pub returns-clause-taken : goal.returns-clause-taken
returns-clause-taken g c =
    let lost = rw c.as_slice.ensures.value at c.reply_to.ensures.lost in
    not_replied c.args.version c.args.request.now.id c.in_ok-text.text.items _ _ _ c.in_ok-text.ensures.fits
    c.send.ensures.input c.in_ok-text.ensures.taken c.reply_to.result lost
