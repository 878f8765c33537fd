-- One more filter, and the verdict so far.
use Rattle.std.proofs.Common.{◌≡◌, ℕ, ◌+◌, ◌<◌, ◌≤◌, inl, inr, List, [], ◌∷◌, ◌++◌, length, get_or, take}
use Rattle.std.proofs.Common.{refl, sym, ap, ◌∙◌, arith, length-append, add-one}
use Rattle.std.proofs.lemmas.Bool.{cases_eq}
use Rattle.std.proofs.lemmas.List.{get_or_append_left}
use Rattle.std.proofs.Math.Seq.{take-suc, get_or-append_seam}
use Rattle.action.specs.declared.action.Action.{Action}
use Rattle.action.specs.declared.verdict.Verdict.{Verdict}
use Rattle.action.specs.Verdict.{rank_of, verdict_of}
use Rattle.bpf_code.specs.declared.insn.Insn.{Insn}
use Rattle.call_data.specs.declared.sys_call.SysCall.{SysCall}
use Rattle.bpf_machine.specs.Runs.{Runs}
use Rattle.verdict.specs.Stack.{HaveValues, IsChosen, IsVerdictOf, IsJudged, rank_at, counted}
use Rattle.verdict.specs.Stack.IsVerdictOf.{of_none, of_chosen}

pub HaveValues-push : (stack : List (List Insn)) (call : SysCall) (values : List ℕ) (code : List Insn)
    (value steps : ℕ)
    → HaveValues stack call values → Runs code call value steps
    → HaveValues (stack ++ code ∷ []) call (values ++ value ∷ [])
HaveValues-push [] call [] code value steps have run = ((steps, run), tt)
HaveValues-push [] call (v ∷ values) code value steps have run = absurd have
HaveValues-push (c ∷ stack) call [] code value steps have run = absurd have
HaveValues-push (c ∷ stack) call (v ∷ values) code value steps have run =
    (have.0, HaveValues-push stack call values code value steps have.1 run)

-- the rank of a value
abbrev pub rank_of_value : ℕ → ℕ
rank_of_value value = rank_of (verdict_of value).action

rank_at-front : (values : List ℕ) (value at : ℕ) → at < length values
    → rank_at (values ++ value ∷ []) at ≡ rank_at values at
rank_at-front values value at within = ap rank_of_value (get_or_append_left values (value ∷ []) 0 at within)

rank_at-last : (values : List ℕ) (value at : ℕ) → at ≡ length values
    → rank_at (values ++ value ∷ []) at ≡ rank_of_value value
rank_at-last values value at same =
    ap (λ i. rank_at (values ++ value ∷ []) i) same ∙ ap rank_of_value (get_or-append_seam values value [] 0)

length-push : (values : List ℕ) (value : ℕ) → length (values ++ value ∷ []) ≡ length values + 1
length-push values value = omega (arith, length-append values (value ∷ []))

-- a value of a later rank changes nothing
chosen_stays : (values : List ℕ) (value at : ℕ) → IsChosen values at → rank_at values at < rank_of_value value
    → IsChosen (values ++ value ∷ []) at
chosen_stays values value at chosen later_rank =
    let here : rank_at (values ++ value ∷ []) at ≡ rank_at values at =
    rank_at-front values value at chosen.within in
    record {
      within = omega (arith, length-push values value, chosen.within);
      first_rank = λ other within. elim (cases_eq other (length values)) [
        | inl last ↦ omega (arith, here, rank_at-last values value other last, later_rank)
        | inr not_last ↦
            let inside : other < length values = omega (arith, within, length-push values value) in
            omega (arith, here, rank_at-front values value other inside, chosen.first_rank other inside)
      ];
      newest = λ other behind within. elim (cases_eq other (length values)) [
        | inl last ↦ omega (arith, here, rank_at-last values value other last, later_rank)
        | inr not_last ↦
            let inside : other < length values = omega (arith, within, length-push values value) in
            omega (arith, here, rank_at-front values value other inside, chosen.newest other behind inside)
      ];
    }

pub verdict_stays : (values : List ℕ) (value : ℕ) (best : Verdict) → ((value : ℕ) → rank_of_value value < 8)
    → IsVerdictOf values best
    → rank_of best.action < rank_of_value value → IsVerdictOf (values ++ value ∷ []) best
verdict_stays values value best below (of_none none e) later_rank =
    let lowest : rank_of best.action ≡ 7 = ap (λ (v : Verdict). rank_of v.action) e in
    absurd (omega (arith, lowest, later_rank, below value))
verdict_stays values value best below (of_chosen at chosen e) later_rank =
    let rank : rank_of best.action ≡ rank_at values at = ap (λ (v : Verdict). rank_of v.action) e in
    of_chosen at (chosen_stays values value at chosen (omega (arith, rank, later_rank)))
    (e ∙ ap verdict_of (sym (get_or_append_left values (value ∷ []) 0 at chosen.within)))

-- a value of the same rank or an earlier one is the verdict from then on
last_chosen : (values : List ℕ) (value : ℕ)
    → ((other : ℕ) → other < length values → rank_of_value value ≤ rank_at values other)
    → IsChosen (values ++ value ∷ []) (length values)
last_chosen values value first =
    let here : rank_at (values ++ value ∷ []) (length values) ≡ rank_of_value value =
    rank_at-last values value (length values) refl in
    record {
      within = omega (arith, length-push values value);
      first_rank = λ other within. elim (cases_eq other (length values)) [
        | inl last ↦ omega (arith, here, rank_at-last values value other last)
        | inr not_last ↦
            let inside : other < length values = omega (arith, within, length-push values value) in
            omega (arith, here, rank_at-front values value other inside, first other inside)
      ];
      newest = λ other behind within. absurd (omega (arith, behind, within, length-push values value));
    }

pub verdict_changes : (values : List ℕ) (value : ℕ) (best : Verdict) → IsVerdictOf values best
    → rank_of_value value ≤ rank_of best.action
    → IsVerdictOf (values ++ value ∷ []) (verdict_of value)
verdict_changes values value best (of_none none e) first =
    of_chosen (length values) (last_chosen values value (λ other within.
    absurd (omega (arith, within, ap length none))))
    (ap verdict_of (sym (get_or-append_seam values value [] 0)))
verdict_changes values value best (of_chosen at chosen e) first =
    let rank : rank_of best.action ≡ rank_at values at = ap (λ (v : Verdict). rank_of v.action) e in
    of_chosen (length values) (last_chosen values value (λ other within.
    omega (arith, rank, first, chosen.first_rank other within)))
    (ap verdict_of (sym (get_or-append_seam values value [] 0)))

-- one more filter with a value of a later rank
pub judged_stays : (stack : List (List Insn)) (code : List Insn) (call : SysCall) (best : Verdict)
    (value steps : ℕ) → ((action : Action) → rank_of action < 8)
    → IsJudged stack call best → Runs code call value steps → rank_of best.action < rank_of_value value
    → IsJudged (stack ++ code ∷ []) call best
judged_stays stack code call best value steps small judged run later_rank = (
  judged.0 ++ value ∷ [],
  HaveValues-push stack call judged.0 code value steps judged.1 run,
  verdict_stays judged.0 value best (λ v. small (verdict_of v).action) judged.2 later_rank,
)

-- one more filter with a value of the same rank or an earlier one
pub judged_changes : (stack : List (List Insn)) (code : List Insn) (call : SysCall) (best : Verdict)
    (value steps : ℕ)
    → IsJudged stack call best → Runs code call value steps → rank_of_value value ≤ rank_of best.action
    → IsJudged (stack ++ code ∷ []) call (verdict_of value)
judged_changes stack code call best value steps judged run first = (
  judged.0 ++ value ∷ [],
  HaveValues-push stack call judged.0 code value steps judged.1 run,
  verdict_changes judged.0 value best judged.2 first,
)

pub take_more : (stack : List (List Insn)) (i : ℕ) (code : List Insn) → i < length stack
    → code ≡ get_or stack i code → take (i + 1) stack ≡ take i stack ++ code ∷ []
take_more stack i code below is =
    ap (λ n. take n stack) (add-one i) ∙ take-suc stack i code below
    ∙ ap (λ (c : List Insn). take i stack ++ c ∷ []) (sym is)

pub counted-push : (stack : List (List Insn)) (code : List Insn)
    → counted (stack ++ code ∷ []) ≡ counted stack + (length code + 4)
counted-push [] code = omega arith
counted-push (c ∷ stack) code = omega (arith, counted-push stack code)
