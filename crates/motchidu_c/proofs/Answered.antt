-- The meaning of a number: which comparison, and which refusals it does not mean.
use Rattle.std.proofs.Common.{◌≡◌, refl, arith}
use Rattle.bpf_compare.specs.declared.comparison.Comparison.{Comparison}
use Rattle.bpf_compare.specs.declared.comparison.Comparison.TheVariants.{Same, Differs, Undecided}
use Rattle.bpf_compare.specs.declared.comparison.Doubt.TheVariants.{Budget, Arithmetic}
use Rattle.bpf_code.specs.declared.fault.CodeFault.TheVariants as text
use Rattle.bpf_verify.specs.declared.fault.Fault.TheVariants as fault
use Rattle.bpf_verify.specs.declared.refusal.Refusal.{Refusal}
use Rattle.bpf_verify.specs.declared.refusal.Refusal.TheVariants.{Code, Filter}
use Rattle.motchidu_c.specs.Status.{number_of, status_of, status_of_comparison}

pub is_same : (found : Comparison) → number_of (status_of_comparison found) ≡ 30 → found ≡ Same
is_same Same e = refl
is_same (Differs call one other) e = absurd (omega (arith, e))
is_same (Undecided Budget) e = absurd (omega (arith, e))
is_same (Undecided Arithmetic) e = absurd (omega (arith, e))

-- no refusal has the number of Lengths
pub is_not_lengths : (refusal : Refusal) → number_of (status_of refusal) ≡ 13 → ⊥
is_not_lengths (Code text.Length) e = omega (arith, e)
is_not_lengths (Code text.TooLong) e = omega (arith, e)
is_not_lengths (Code (text.BadCode at)) e = omega (arith, e)
is_not_lengths (Code text.Memory) e = omega (arith, e)
is_not_lengths (Filter fault.Empty) e = omega (arith, e)
is_not_lengths (Filter fault.TooLong) e = omega (arith, e)
is_not_lengths (Filter (fault.BadOffset at)) e = omega (arith, e)
is_not_lengths (Filter (fault.BadJump at)) e = omega (arith, e)
is_not_lengths (Filter (fault.BadWord at)) e = omega (arith, e)
is_not_lengths (Filter (fault.BadShift at)) e = omega (arith, e)
is_not_lengths (Filter (fault.ZeroDivisor at)) e = omega (arith, e)
is_not_lengths (Filter fault.NoFinalReturn) e = omega (arith, e)
is_not_lengths (Filter (fault.Unstored at)) e = omega (arith, e)
