-- A text that was not read though there was memory is no reply.
use Rattle.std.proofs.Common.{◌≡◌, ◌≢◌, ℕ, Result, Ok, Err}
use Rattle.cri_msgs.specs.declared.faults.MessageFault.{MessageFault}
use Rattle.cri_msgs.specs.declared.faults.MessageFault.TheVariants.{NoMessage, Memory}
use Rattle.cri_msgs.specs.declared.replies.Reply.{Reply}
use Rattle.cri_frames.proofs.calls.reply_to.Goals as goal

none_read : (fault : MessageFault) (number : ℕ) (reply : Reply) → fault ≡ NoMessage number
    → (fault ≢ Memory → ◌≡◌ {A = Result Reply MessageFault} (Ok reply) (Err fault)) → ⊥
none_read fault number reply is read =
    let told : fault ≢ Memory = λ memory. cc in
    let same : ◌≡◌ {A = Result Reply MessageFault} (Ok reply) (Err fault) = read told in
    cc

pub returns-in-Err-NoMessage-clause-lost : goal.returns-in-Err-NoMessage-clause-lost
returns-in-Err-NoMessage-clause-lost c = λ reply says.
    none_read c.in-Err-NoMessage.field-0 c.in-Err-NoMessage.field-0-0 reply c.in-Err-NoMessage.field-0-is
    (c.in-Err-NoMessage.ensures.only reply says)
