-- A stack of sound filters has exactly one verdict on each call.
use Rattle.std.proofs.Common.{◌≡◌, ℕ, ◌<◌, inl, inr, List, [], ◌∷◌, ◌++◌, length, refl, sym, ap, subst, ◌∙◌}
use Rattle.std.proofs.Common.{arith, append_assoc}
use Rattle.std.proofs.lemmas.Bool.{cases_lt}
use Rattle.std.proofs.lemmas.List.{append-nil}
use Rattle.std.proofs.lemmas.List.Elements.{All-head, All-tail}
use Rattle.std.specs.Prelude.{slice_index}
use Rattle.action.specs.declared.action.Action.{Action}
use Rattle.action.specs.declared.verdict.Verdict.{Verdict}
use Rattle.action.specs.Verdict.{rank_of, verdict_of}
use Rattle.bpf_code.specs.declared.insn.Insn.{Insn}
use Rattle.bpf_verify.specs.Sound.{IsSound}
use Rattle.call_data.specs.declared.sys_call.SysCall.{SysCall}
use Rattle.bpf_machine.specs.Runs.{Runs}
use Rattle.verdict.specs.Stack.{HaveValues, IsChosen, IsVerdictOf, IsJudged, AllSound}
use Rattle.verdict.specs.Stack.IsVerdictOf.{of_none, of_chosen}
use Rattle.verdict.proofs.Chosen.{rank_of_value, judged_stays, judged_changes}

-- one more filter
judged_push : (stack : List (List Insn)) (code : List Insn) (call : SysCall) (best : Verdict)
    (value steps : ℕ) → ((action : Action) → rank_of action < 8)
    → IsJudged stack call best → Runs code call value steps → (verdict : Verdict)
    × IsJudged (stack ++ code ∷ []) call verdict
judged_push stack code call best value steps small judged run =
    elim (cases_lt (rank_of best.action) (rank_of_value value)) [
      | inl later_rank ↦ (best, judged_stays stack code call best value steps small judged run later_rank)
      | inr first ↦ (verdict_of value, judged_changes stack code call best value steps judged run first)
    ]

-- the filters of which the verdict is known, and those after them
pub judged_on : ((code : List Insn) (call : SysCall) → IsSound code → (value : ℕ) × (steps : ℕ)
    × Runs code call value steps) → ((action : Action) → rank_of action < 8)
    → (stack rest : List (List Insn)) (call : SysCall) (best : Verdict) → AllSound rest
    → IsJudged stack call best → (verdict : Verdict) × IsJudged (stack ++ rest) call verdict
judged_on runs small stack [] call best sound judged =
    (best, rw (append-nil stack) judged)
judged_on runs small stack (code ∷ rest) call best sound judged =
    let run : (value : ℕ) × (steps : ℕ) × Runs code call value steps =
    runs code call (All-head IsSound code rest sound) in
    let more : (verdict : Verdict) × IsJudged (stack ++ code ∷ []) call verdict =
    judged_push stack code call best run.0 run.1 small judged run.2 in
    let P : List (List Insn) → Type 0 = λ s. (verdict : Verdict) × IsJudged s call verdict in
    subst P (append_assoc stack (code ∷ []) rest)
    (judged_on runs small (stack ++ code ∷ []) rest call more.0 (All-tail IsSound code rest sound) more.1)

-- the values of a stack are its only ones
pub values_one : ((code : List Insn) (call : SysCall) (value other steps count : ℕ)
    → Runs code call value steps → Runs code call other count → value ≡ other)
    → (stack : List (List Insn)) (call : SysCall) (values others : List ℕ) → HaveValues stack call values
    → HaveValues stack call others → values ≡ others
values_one same [] call [] [] have had = refl
values_one same [] call [] (o ∷ others) have had = absurd had
values_one same [] call (v ∷ values) others have had = absurd have
values_one same (code ∷ stack) call [] others have had = absurd have
values_one same (code ∷ stack) call (v ∷ values) [] have had = absurd had
values_one same (code ∷ stack) call (v ∷ values) (o ∷ others) have had =
    ap (λ first. first ∷ values) (same code call v o have.0.0 had.0.0 have.0.1 had.0.1)
    ∙ ap (λ rest. o ∷ rest) (values_one same stack call values others have.1 had.1)

-- one place is the last of first rank
chosen_one : (values : List ℕ) (at other : ℕ) → IsChosen values at → IsChosen values other → at ≡ other
chosen_one values at other chosen also =
    elim (cases_lt at other) [
      | inl before ↦ absurd (omega (
        arith,
        chosen.newest other before also.within,
        also.first_rank at chosen.within,
      ))
      | inr not_before ↦ elim (cases_lt other at) [
        | inl behind ↦ absurd (omega (
          arith,
          also.newest at behind chosen.within,
          chosen.first_rank other also.within,
        ))
        | inr not_behind ↦ omega arith
      ]
    ]

verdict_one : (values : List ℕ) (verdict other : Verdict) → IsVerdictOf values verdict
    → IsVerdictOf values other → verdict ≡ other
verdict_one values verdict other (of_none none e) (of_none _ f) = e ∙ sym f
verdict_one values verdict other (of_none none e) (of_chosen at chosen f) =
    absurd (omega (arith, chosen.within, ap length none))
verdict_one values verdict other (of_chosen at chosen e) (of_none none f) =
    absurd (omega (arith, chosen.within, ap length none))
verdict_one values verdict other (of_chosen at chosen e) (of_chosen place also f) =
    e ∙ ap (λ i. verdict_of (slice_index values i)) (chosen_one values at place chosen also) ∙ sym f

pub judged_one : ((code : List Insn) (call : SysCall) (value other steps count : ℕ)
    → Runs code call value steps → Runs code call other count → value ≡ other)
    → (stack : List (List Insn)) (call : SysCall) (verdict other : Verdict) → IsJudged stack call verdict
    → IsJudged stack call other → verdict ≡ other
judged_one same stack call verdict other judged also =
    let P : List ℕ → Type 0 = λ values. IsVerdictOf values other in
    verdict_one judged.0 verdict other judged.2
    (subst P (values_one same stack call also.0 judged.0 also.1 judged.1) also.2)
