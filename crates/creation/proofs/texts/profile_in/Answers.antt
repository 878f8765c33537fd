use Rattle.std.proofs.Common.{inl, inr}
use Rattle.creation.proofs.texts.profile_in.Goals as goal

pub returns-in-Err-clause-refused : goal.returns-in-Err-clause-refused
returns-in-Err-clause-refused c = elim c.profile_refusal.ensures [
  | inl memory ↦ inl memory
  | inr other ↦ inr ((λ read reads. cc (c.in-Err.ensures.only read reads other.0)), other.1)
]

pub returns-in-Ok-clause-one : goal.returns-in-Ok-clause-one
returns-in-Ok-clause-one c = λ other reads. cc (c.in-Ok.ensures.only other reads)
