-- A text that was not read though there was memory is no request, and is reported with its number.
use Rattle.std.proofs.Common.{◌≡◌, ◌≢◌, ℕ, Result, Ok, Err, inr, refl, ap, ◌∙◌}
use Rattle.cri_msgs.specs.declared.calls.Request.{Request}
use Rattle.cri_msgs.specs.declared.faults.MessageFault.{MessageFault}
use Rattle.cri_msgs.specs.declared.faults.MessageFault.TheVariants.{NoMessage, Memory}
use Rattle.cri_msgs.specs.declared.refusals.Refusal.TheVariants.{InvalidArgument}
use Rattle.cri_msgs.specs.declared.replies.Answer.TheVariants.{Refused}
use Rattle.cri_msgs.specs.Requests.{number_of}
use Rattle.runner.proofs.answering.reply_to.Goals as goal

none_read : (fault : MessageFault) (number : ℕ) (request : Request) → fault ≡ NoMessage number
    → (fault ≢ Memory → ◌≡◌ {A = Result Request MessageFault} (Ok request) (Err fault)) → ⊥
none_read fault number request is read =
    let told : fault ≢ Memory = λ memory. cc in
    let same : ◌≡◌ {A = Result Request MessageFault} (Ok request) (Err fault) = read told in
    cc

told_number : (fault : MessageFault) (number other : ℕ) → fault ≡ NoMessage number
    → (fault ≢ Memory → fault ≡ NoMessage other) → number ≡ other
told_number fault number other is told =
    let no_memory : fault ≢ Memory = λ memory. cc in
    let same : fault ≡ NoMessage other = told no_memory in
    cc

pub returns-in-Err-NoMessage-clause-reply : goal.returns-in-Err-NoMessage-clause-reply
returns-in-Err-NoMessage-clause-reply g c =
    let at = c.in-Err-NoMessage in
    let same : at.id ≡ number_of c.args.text.now =
    told_number at.field-0 at.id (number_of c.args.text.now) at.field-0-is at.ensures.refused in
    inr (
      λ request says. none_read at.field-0 at.id request at.field-0-is (at.ensures.only request says),
      ap (λ (id : ℕ). record { id = id; answer = Refused InvalidArgument }) (at.id-is ∙ same),
      refl {a = c.args.service.now},
    )
