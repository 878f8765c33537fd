use Rattle.std.proofs.Common.{arith, rules, refl}
use Rattle.std.proofs.lemmas.Grind.{common_steps}
use Rattle.bpf_verify.specs.Faults.IsFirstFault.{breaks_rule, loads_unstored}
use Rattle.bpf_verify.proofs.verifier.first_fault.Goals as goal

pub returns-in-Some-clause-first : goal.returns-in-Some-clause-first
returns-in-Some-clause-first c =
    breaks_rule (record { some = grind (arith, common_steps); short = c.if-code-gt-MAX_INSNS.false })
    c.in-Some.ensures.broken.0 c.in-Some.ensures.broken.1

pub returns-in-Some-first_unstored-clause-first : goal.returns-in-Some-first_unstored-clause-first
returns-in-Some-first_unstored-clause-first c =
    loads_unstored (record { some = grind (arith, common_steps); short = c.if-code-gt-MAX_INSNS.false })
    (search rules) (c.if-not-ends_with_return.ensures.0 refl) c.in-Some-first_unstored.at
    c.in-Some-first_unstored.ensures.unstored refl
