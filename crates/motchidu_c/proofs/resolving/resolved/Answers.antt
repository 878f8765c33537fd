use Rattle.std.proofs.Common.{length, inl, inr}
use Rattle.std.proofs.lemmas.Bool.{cases_lt}
use Rattle.motchidu_c.proofs.resolving.resolved.Goals as goal

pub returns-in-Ok-clause-len_kept : goal.returns-in-Ok-clause-len_kept
returns-in-Ok-clause-len_kept c = λ not_accepted not_room.
    elim (cases_lt (length c.args.text.now) (length c.as_bytes.result.now)) [
      | inl less ↦ absurd (not_room (c.give.ensures.no_room less).0)
      | inr fits ↦ absurd (not_accepted (c.give.ensures.fits fits).0)
    ]
