-- More filters never make the verdict on a call milder.
use Rattle.std.proofs.Common.{◌≡◌, ℕ, ◌<◌, ◌≤◌, List, [], ◌∷◌, ◌++◌, length, refl, ap, subst, arith}
use Rattle.std.proofs.Common.{length-append}
use Rattle.std.proofs.lemmas.List.{get_or_append_left}
use Rattle.action.specs.declared.action.Action.{Action}
use Rattle.action.specs.declared.verdict.Verdict.{Verdict}
use Rattle.action.specs.Verdict.{rank_of}
use Rattle.bpf_code.specs.declared.insn.Insn.{Insn}
use Rattle.call_data.specs.declared.sys_call.SysCall.{SysCall}
use Rattle.bpf_machine.specs.Runs.{Runs}
use Rattle.verdict.specs.Stack.{HaveValues, IsVerdictOf, IsJudged, rank_at}
use Rattle.verdict.specs.Stack.IsVerdictOf.{of_none, of_chosen}
use Rattle.verdict.proofs.Chosen.{rank_of_value}
use Rattle.verdict.proofs.OneVerdict.{values_one}

-- the values of the older filters, and then those of the others
front_values : (stack added : List (List Insn)) (call : SysCall) (values : List ℕ)
    → HaveValues (stack ++ added) call values
    → (front : List ℕ) × (rest : List ℕ) × HaveValues stack call front × (values ≡ front ++ rest)
front_values [] added call values have = ([], values, tt, refl)
front_values (code ∷ stack) added call [] have = absurd have
front_values (code ∷ stack) added call (value ∷ values) have =
    let more = front_values stack added call values have.1 in
    (value ∷ more.0, more.1, (have.0, more.2), ap (λ vs. value ∷ vs) more.3)

milder : (front rest : List ℕ) (alone together : Verdict) → ((action : Action) → rank_of action < 8)
    → IsVerdictOf front alone → IsVerdictOf (front ++ rest) together
    → rank_of together.action ≤ rank_of alone.action
milder front rest alone together small (of_none none e) also =
    let last : rank_of alone.action ≡ 7 = ap (λ (v : Verdict). rank_of v.action) e in
    omega (arith, last, small together.action)
milder front rest alone together small (of_chosen at chosen e) (of_none none f) =
    absurd (omega (arith, chosen.within, length-append front rest, ap length none))
milder front rest alone together small (of_chosen at chosen e) (of_chosen place also f) =
    let here : rank_of alone.action ≡ rank_at front at = ap (λ (v : Verdict). rank_of v.action) e in
    let whole : rank_of together.action ≡ rank_at (front ++ rest) place =
    ap (λ (v : Verdict). rank_of v.action) f in
    let same : rank_at (front ++ rest) at ≡ rank_at front at =
    ap rank_of_value (get_or_append_left front rest 0 at chosen.within) in
    omega (
      arith,
      here,
      whole,
      same,
      also.first_rank at
          (omega (arith, chosen.within, length-append front rest)),
    )

pub none_milder : ((code : List Insn) (call : SysCall) (value other steps count : ℕ)
    → Runs code call value steps → Runs code call other count → value ≡ other)
    → ((action : Action) → rank_of action < 8)
    → (stack added : List (List Insn)) (call : SysCall) (alone together : Verdict)
    → IsJudged stack call alone → IsJudged (stack ++ added) call together
    → rank_of together.action ≤ rank_of alone.action
none_milder same small stack added call alone together judged also =
    let parts = front_values stack added call also.0 also.1 in
    let P : List ℕ → Type 0 = λ values. IsVerdictOf values alone in
    milder parts.0 parts.1 alone together small
    (subst P (values_one same stack call judged.0 parts.0 judged.1 parts.2) judged.2)
    (subst (λ values. IsVerdictOf values together) parts.3 also.2)
