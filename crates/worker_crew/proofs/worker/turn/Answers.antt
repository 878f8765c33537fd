-- A report follows its claim, which is the last receipt.
use Rattle.std.proofs.Common.{◌≡◌, ap, sym, subst, ◌∙◌}
use Rattle.worker_crew.specs.Work.{MayFollow, claim_in, request_of}
use Rattle.worker_crew.proofs.worker.turn.Goals as goal

pub add-requires-2-clause-may : goal.add-requires-2-clause-may
add-requires-2-clause-may g c =
    let claim = c.in-Some.claim in
    let asked : claim_in claim.entry.event claim.entry.answer ≡ request_of claim.entry.answer =
    ap (λ event. claim_in event claim.entry.answer) c.in-Some.ensures.event in
    let seen : request_of claim.entry.answer ≡ request_of c.entry.result.now.answer =
    ap (λ entry. request_of entry.answer) (sym c.entry.ensures) in
    subst (λ before. MayFollow g.P.Peer.may before c.in-Some-report.told.entry.event)
    (sym (c.add.ensures.claim ∙ asked ∙ seen))
    (c.in-Some-report.ensures.may (request_of c.entry.result.now.answer) c.in-Some-end.ensures.may)
