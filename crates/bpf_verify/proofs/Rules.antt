-- What follows from the rules of single places: words that exist, and jumps that stay in the code.
use Rattle.std.proofs.Common.{◌≡◌, ◌<◌, ◌≤◌, ◌+◌, ◌-◌, inl, inr, ℕ, List, [], ◌∷◌, Some, length, slice_get}
use Rattle.std.proofs.Common.{refl, sym, ap, ◌∙◌, arith}
use Rattle.std.proofs.lemmas.Bool.{cases_eq}
use Rattle.std.proofs.lemmas.Option.{same_Some, slice_get_within}
use Rattle.bpf_code.specs.declared.operation.Operation.{Operation}
use Rattle.bpf_code.specs.declared.operation.Operation.TheVariants.{LoadWord, LoadXWord}
use Rattle.bpf_code.specs.declared.insn.Insn.{Insn}
use Rattle.bpf_code.specs.declared.flow.Flow.{Flow}
use Rattle.bpf_code.specs.declared.flow.Flow.TheVariants.{Returns, Jumps, Branches, Continues}
use Rattle.bpf_code.specs.declared.flow.Scratch.TheVariants.{Loads}
use Rattle.bpf_code.specs.declared.limits.TheConstants.{SCRATCH_WORDS}
use Rattle.bpf_code.specs.Flow.{flow_of, scratch_of}
use Rattle.bpf_verify.specs.Walks.{MayGo, Follows, IsWalk}
use Rattle.bpf_verify.specs.Sound.{AllKeepRules, EndsWithReturn, KeepsNumber, KeepsTargets, IsSound}
use Rattle.bpf_verify.specs.Masks.{GoesBelow}

-- a word that is loaded exists
pub loads_small : (op : Operation) (k : ℕ) → scratch_of op ≡ Loads → KeepsNumber op k → k < SCRATCH_WORDS
loads_small LoadWord k loads keeps = keeps
loads_small LoadXWord k loads keeps = keeps
loads_small _ k loads keeps = absurd (cc)

-- where the filter goes on, there is a next instruction
pub not_last : (code : List Insn) (at : ℕ) (insn : Insn) → EndsWithReturn code → slice_get code at ≡ Some insn
    → flow_of insn.op ≡ Continues → at + 1 < length code
not_last code at insn last stands continues =
    let within : at < length code = slice_get_within code at insn stands in
    elim (cases_eq (at + 1) (length code)) [
      | inl ends ↦
          let place : at ≡ length code - 1 = omega arith in
          let same : insn ≡ last.insn = same_Some insn last.insn (sym stands
          ∙ ap (λ i. slice_get code i) place ∙ last.stands) in
          let contradiction : Continues ≡ Returns = sym continues ∙ ap (λ (x : Insn). flow_of x.op) same
          ∙ last.returns in
          absurd (cc)
      | inr more ↦ omega arith
    ]

goes_below_flow : (f : Flow) (insn : Insn) (at len limit : ℕ) → KeepsTargets f insn at len → len ≤ limit
    → (f ≡ Continues → at + 1 < len) → GoesBelow f insn at limit
goes_below_flow Returns insn at len limit keeps short more = tt
goes_below_flow Jumps insn at len limit keeps short more = omega (arith, keeps)
goes_below_flow Branches insn at len limit keeps short more = (omega (arith, keeps.0), omega (arith, keeps.1))
goes_below_flow Continues insn at len limit keeps short more = omega (arith, more refl)

pub goes_below : (code : List Insn) (at : ℕ) (insn : Insn) (limit : ℕ) → AllKeepRules code
    → EndsWithReturn code → slice_get code at ≡ Some insn → length code ≤ limit
    → GoesBelow (flow_of insn.op) insn at limit
goes_below code at insn limit rules last stands short =
    goes_below_flow (flow_of insn.op) insn at (length code) limit (rules at insn stands).targets short
    (not_last code at insn last stands)

may_go_below : (f : Flow) (insn : Insn) (from to limit : ℕ) → GoesBelow f insn from limit
    → MayGo f insn from to → to < limit
may_go_below Returns insn from to limit below goes = absurd goes
may_go_below Jumps insn from to limit below goes = omega (arith, below, goes)
may_go_below Branches insn from to limit below (inl taken) = omega (arith, below.0, taken)
may_go_below Branches insn from to limit below (inr not_taken) = omega (arith, below.1, not_taken)
may_go_below Continues insn from to limit below goes = omega (arith, below, goes)

-- the next place is in the code
pub stays_inside : (code : List Insn) (from to : ℕ) → AllKeepRules code → EndsWithReturn code
    → Follows code from to → to < length code
stays_inside code from to rules last follows =
    may_go_below (flow_of follows.insn.op) follows.insn from to (length code)
    (goes_below code from follows.insn (length code) rules last follows.stands (omega arith)) follows.goes

-- a walk of sound code never leaves it
pub walk_inside : (code : List Insn) (before : List ℕ) (at : ℕ) → IsSound code → IsWalk code before at
    → at < length code
walk_inside code [] at sound walk = omega (arith, walk, sound.some)
walk_inside code (last ∷ earlier) at sound walk = stays_inside code last at sound.places sound.last walk.1
