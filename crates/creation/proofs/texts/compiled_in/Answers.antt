use Rattle.std.proofs.Common.{◌<◌, inl, inr, sym, subst}
use Rattle.bpf_code.specs.declared.limits.TheConstants.{MAX_INSNS}
use Rattle.oci_profile.specs.Meaning.{weight}
use Rattle.creation.proofs.Refused.{refused_so}
use Rattle.creation.proofs.texts.compiled_in.Goals as goal

-- the bytes have one profile at most
pub returns-in-Ok-clause-refused : goal.returns-in-Ok-clause-refused
returns-in-Ok-clause-refused c = refused_so c.compiled.result (λ refusal why. elim why [
  | inl memory ↦ inl memory
  | inr long ↦ inr (
    (λ other reads. subst (λ p. MAX_INSNS < weight p)
        (sym (c.in-Ok.ensures.one other reads)) long.1),
    long.0,
  )
]) c.compiled.ensures.refused

pub returns-in-Err-clause-refused : goal.returns-in-Err-clause-refused
returns-in-Err-clause-refused c = elim c.in-Err.ensures.refused [
  | inl memory ↦ inl memory
  | inr none ↦ inr ((λ other reads. absurd (none.0 other reads)), none.1)
]
