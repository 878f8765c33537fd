use Rattle.std.proofs.Common.{inl, inr}
use Rattle.creation.proofs.texts.script_in.Goals as goal

pub returns-in-Err-clause-refused : goal.returns-in-Err-clause-refused
returns-in-Err-clause-refused c = elim c.script_refusal.ensures [
  | inl memory ↦ inl memory
  | inr other ↦ inr ((λ read reads. cc (c.in-Err.ensures.only read reads other.0)), other.1)
]
