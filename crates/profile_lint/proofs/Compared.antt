-- A result on two filters is one on the profiles of these filters.
use Rattle.std.proofs.Common.{◌≡◌, ℕ, List, sym, subst, ◌∙◌}
use Rattle.bpf_code.specs.declared.insn.Insn.{Insn}
use Rattle.call_data.specs.declared.sys_call.SysCall.{SysCall}
use Rattle.call_data.specs.CallData.{IsCall}
use Rattle.bpf_machine.specs.Runs.{Runs}
use Rattle.bpf_compare.specs.declared.comparison.Comparison.{Comparison}
use Rattle.bpf_compare.specs.declared.comparison.Comparison.TheVariants.{Same, Differs}
use Rattle.bpf_compare.specs.declared.scope.Scope.TheVariants.{EveryCall}
use Rattle.bpf_compare.specs.Agree as filters
use Rattle.oci_profile.specs.declared.profile.Profile.{Profile}
use Rattle.oci_profile.specs.Meaning.{meaning}
use Rattle.profile_lint.specs.Entries.{DifferOn, MeanSame}

abbrev pub AreDetermined : Type 0
AreDetermined = (code : List Insn) (call : SysCall) (value other steps count : ℕ)
    → Runs code call value steps → Runs code call other count → value ≡ other

-- on every call the filter's value is the profile's
abbrev pub IsFilterOf : Profile → List Insn → Type 0
IsFilterOf profile code = (call : SysCall) → IsCall call
    → (steps : ℕ) × Runs code call (meaning profile call) steps

pub same : (one other : Profile) (first second : List Insn) (found : Comparison) → AreDetermined
    → IsFilterOf one first → IsFilterOf other second → found ≡ Same
    → filters.Says found EveryCall first second → MeanSame one other
same one other first second found determined of_one of_other is says call fits =
    let agree = subst (λ f. filters.Says f EveryCall first second) is says call fits in
    let here = of_one call fits in
    let there = of_other call fits in
    determined first call (meaning one call) agree.value here.0 agree.of_first.steps here.1 agree.of_first.run
    ∙ sym (determined second call (meaning other call) agree.value there.0 agree.of_second.steps
    there.1 agree.of_second.run)

pub differ : (one other : Profile) (first second : List Insn) (found : Comparison) (call : SysCall) (m n : ℕ)
    → AreDetermined → IsFilterOf one first → IsFilterOf other second → found ≡ Differs call m n
    → filters.Says found EveryCall first second → DifferOn one other call
differ one other first second found call m n determined of_one of_other is says =
    let told = subst (λ f. filters.Says f EveryCall first second) is says in
    let here = of_one call told.0 in
    let there = of_other call told.0 in (
      told.0,
      λ alike. told.1.differ
          (determined first call m (meaning one call) told.1.of_first.steps here.0 told.1.of_first.run here.1
          ∙ (alike ∙ determined second call (meaning other call) n there.0 told.1.of_second.steps
          there.1 told.1.of_second.run)),
    )
