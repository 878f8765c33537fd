-- A script has exactly one outcome.
use Rattle.std.proofs.Common.{◌≡◌, ◌⊎◌, inl, inr, ℕ, List, [], ◌∷◌, ◌++◌, Option, Some, None, Bool, true}
use Rattle.std.proofs.Common.{false, refl, sym, ap, subst, ◌∙◌}
use Rattle.std.proofs.lemmas.List.{append-nil, append_assoc}
use Rattle.std.proofs.lemmas.List.Elements.{All-push}
use Rattle.action.specs.declared.verdict.Verdict.{Verdict}
use Rattle.action.specs.Verdict.{performs_of}
use Rattle.bpf_code.specs.declared.insn.Insn.{Insn}
use Rattle.bpf_verify.specs.Sound.{IsSound}
use Rattle.call_data.specs.declared.sys_call.SysCall.{SysCall}
use Rattle.script.specs.Script.{HasSoundFilters, IsSoundStep}
use Rattle.script.specs.declared.scripts.Step.{Step}
use Rattle.script.specs.declared.scripts.Step.TheVariants.{Call, Exit, ExitByAttempt, Install}
use Rattle.verdict.specs.Stack.{AllSound, IsJudged, Judges}
use Rattle.runtime_cell.specs.declared.calls.JudgedCall.{JudgedCall}
use Rattle.runtime_cell.specs.Outcome.{Next, Outcome, ComesBy, IsNext, IsOutcome, code_at, end_of, entry_of}
use Rattle.runtime_cell.specs.Outcome.{has_place, install_call, installed, joined, judged}
use Rattle.runtime_cell.specs.Outcome.Next.{Goes, Stops, Over}

-- a stack has at most one verdict on a call
abbrev pub SaysOne : Type 0
SaysOne = (stack : List (List Insn)) (call : SysCall) (verdict other : Verdict) → IsJudged stack call verdict
    → IsJudged stack call other → verdict ≡ other

-- a stack of sound filters has one on every call
abbrev pub SaysSome : Type 0
SaysSome = (stack : List (List Insn)) → AllSound stack → (verdicts : SysCall → Verdict)
    × Judges stack verdicts

pub next_one : SaysOne → (stack : List (List Insn)) (attempt : ℕ) (step : Option Step) (next other : Next)
    → IsNext stack attempt step next → IsNext stack attempt step other → next ≡ other
next_one one stack attempt None next other is also = is ∙ sym also
next_one one stack attempt (Some (Call call on_error)) next other is also =
    is.2 ∙ ap (λ (v : Verdict). judged (entry_of call v) (end_of v on_error))
    (one stack call is.0 also.0 is.1 also.1) ∙ sym also.2
next_one one stack attempt (Some (Exit code)) next other is also = is ∙ sym also
next_one one stack attempt (Some (ExitByAttempt codes)) next other is also = is ∙ sym also
next_one one stack attempt (Some (Install filter on_error)) next other is also =
    is.2 ∙ ap (λ (v : Verdict). installed filter (entry_of install_call v) (end_of v on_error) on_error
    (performs_of v.action) (has_place stack filter)) (one stack install_call is.0 also.0 is.1 also.1)
    ∙ sym also.2

comes_one : (next : Next) (added : List (List Insn)) (After : List (List Insn) → Outcome → Type 0)
    (outcome other : Outcome)
    → ((more : List (List Insn)) (rest others : Outcome) → After more rest → After more others
    → rest ≡ others)
    → ComesBy next added After outcome → ComesBy next added After other → outcome ≡ other
comes_one (Goes entry more) added After outcome other one comes also =
    comes.2 ∙ ap (joined (entry ∷ [])) (one (added ++ more) comes.0 also.0 comes.1 also.1) ∙ sym also.2
comes_one (Stops entry code) added After outcome other one comes also = comes ∙ sym also
comes_one (Over code) added After outcome other one comes also = comes ∙ sym also

pub outcome_one : SaysOne → (start : List (List Insn)) (attempt : ℕ) (script : List Step)
    (added : List (List Insn)) (outcome other : Outcome)
    → IsOutcome start attempt script added outcome → IsOutcome start attempt script added other
    → outcome ≡ other
outcome_one one start attempt [] added outcome other is also = is ∙ sym also
outcome_one one start attempt (step ∷ steps) added outcome other is also =
    let same : also.0 ≡ is.0 = next_one one (start ++ added) attempt (Some step) also.0 is.0 also.1 is.1 in
    comes_one is.0 added (IsOutcome start attempt steps) outcome other (λ more rest others.
    outcome_one one start attempt steps more rest others) is.2
    (subst (λ n. ComesBy n added (IsOutcome start attempt steps) other) same also.2)

-- what a step adds is sound
abbrev AddsSound : Next → Type 0
AddsSound (Goes entry more) = (filter : List Insn) × ((more ≡ []) ⊎ ((more ≡ filter ∷ []) × IsSound filter))
AddsSound (Stops entry code) = Unit {0}
AddsSound (Over code) = Unit {0}

judged_sound : (entry : JudgedCall) (end : Option ℕ) → AddsSound (judged entry end)
judged_sound entry None = ([], inl refl)
judged_sound entry (Some code) = tt

installed_sound : (filter : List Insn) (entry : JudgedCall) (end on_error : Option ℕ) (performs place : Bool)
    → IsSound filter → AddsSound (installed filter entry end on_error performs place)
installed_sound filter entry end on_error true true sound = (filter, inr (refl, sound))
installed_sound filter entry end on_error true false sound = judged_sound entry _
installed_sound filter entry end on_error false place sound = judged_sound entry end

next_some : SaysSome → (stack : List (List Insn)) (attempt : ℕ) (step : Step) → AllSound stack
    → IsSoundStep step → (next : Next) × IsNext stack attempt (Some step) next × AddsSound next
next_some some stack attempt (Call call on_error) sound own =
    let verdicts = some stack sound in (
      judged (entry_of call (verdicts.0 call)) (end_of (verdicts.0 call) on_error),
      (verdicts.0 call, verdicts.1 call, refl),
      judged_sound _ (end_of (verdicts.0 call) on_error),
    )
next_some some stack attempt (Exit code) sound own = (Over code, refl, tt)
next_some some stack attempt (ExitByAttempt codes) sound own = (Over (code_at codes attempt), refl, tt)
next_some some stack attempt (Install filter on_error) sound own =
    let verdicts = some stack sound in
    let verdict : Verdict = verdicts.0 install_call in (
      installed filter (entry_of install_call verdict) (end_of verdict on_error) on_error
          (performs_of verdict.action) (has_place stack filter),
      (verdict, verdicts.1 install_call, refl),
      installed_sound filter _ _ on_error (performs_of verdict.action) (has_place stack filter) own,
    )

sound_more : (start added more : List (List Insn)) (filter : List Insn) → AllSound (start ++ added)
    → ((more ≡ []) ⊎ ((more ≡ filter ∷ []) × IsSound filter)) → AllSound (start ++ (added ++ more))
sound_more start added more filter sound (inl none) =
    subst AllSound (sym (ap (λ ms. start ++ (added ++ ms)) none ∙ ap (λ fs. start ++ fs) (append-nil added)))
    sound
sound_more start added more filter sound (inr one) =
    subst AllSound (append_assoc start added (filter ∷ []) ∙ ap (λ ms. start ++ (added ++ ms)) (sym one.0))
    (All-push IsSound (start ++ added) filter sound one.1)

comes_some : (next : Next) (start added : List (List Insn)) (After : List (List Insn) → Outcome → Type 0)
    → AllSound (start ++ added) → AddsSound next
    → ((more : List (List Insn)) → AllSound (start ++ more) → (rest : Outcome) × After more rest)
    → (outcome : Outcome) × ComesBy next added After outcome
comes_some (Goes entry more) start added After sound adds some =
    let rest = some (added ++ more) (sound_more start added more adds.0 sound adds.1) in
    (joined (entry ∷ []) rest.0, (rest.0, rest.1, refl))
comes_some (Stops entry code) start added After sound adds some =
    (record { entries = entry ∷ []; added = added; code = code }, refl)
comes_some (Over code) start added After sound adds some =
    (record { entries = []; added = added; code = code }, refl)

pub outcome_some : SaysSome → (start : List (List Insn)) (attempt : ℕ) (script : List Step)
    (added : List (List Insn)) → AllSound (start ++ added) → HasSoundFilters script
    → (outcome : Outcome) × IsOutcome start attempt script added outcome
outcome_some some start attempt [] added sound fits = (record { entries = []; added = added; code = 0 }, refl)
outcome_some some start attempt (step ∷ steps) added sound fits =
    let next = next_some some (start ++ added) attempt step sound fits.0 in
    let comes = comes_some next.0 start added (IsOutcome start attempt steps) sound next.2 (λ more soon.
    outcome_some some start attempt steps more soon fits.1) in
    (comes.0, (next.0, next.1, comes.1))
