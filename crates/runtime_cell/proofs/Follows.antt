-- A change of a cell moves a part of its outcome from what is to come to its record.
use Rattle.std.proofs.Common.{◌≡◌, ◌⊎◌, inl, inr, ℕ, zero, suc, List, [], ◌∷◌, ◌++◌, length, drop, slice_get}
use Rattle.std.proofs.Common.{Some, None, true, false, refl, sym, ap, subst, ◌∙◌, arith, length-append}
use Rattle.std.proofs.lemmas.List.{append-nil, append_assoc}
use Rattle.script.specs.declared.scripts.Step.{Step}
use Rattle.verdict.specs.Stack.{AllSound}
use Rattle.runtime_cell.specs.declared.calls.JudgedCall.{JudgedCall}
use Rattle.runtime_cell.specs.declared.cell.Did.{Did}
use Rattle.runtime_cell.specs.declared.cell.State.{State}
use Rattle.runtime_cell.specs.declared.cell.State.TheVariants.{Created, Running, Exited}
use Rattle.runtime_cell.specs.Cell.{Cell, FollowsIn, FollowsScript, GoesOn, IsWellMade, IsWhole, Making}
use Rattle.runtime_cell.specs.Cell.{Steps, StepsIn, after, filters_of, fresh, killed, killed_state, started}
use Rattle.runtime_cell.specs.Cell.{started_state, step_in, with_state}
use Rattle.runtime_cell.specs.Outcome.{Next, Outcome, ComesBy, IsNext, IsOutcome, joined}
use Rattle.runtime_cell.specs.Outcome.Next.{Goes, Stops, Over}
use Rattle.runtime_cell.proofs.Outcomes.{SaysOne, SaysSome, next_one, outcome_some}

-- the steps from a place on
pub place_in : (script : List Step) (place : ℕ)
    → ((slice_get script place ≡ None) × (drop place script ≡ [])) ⊎ ((step : Step)
    × (slice_get script place ≡ Some step) × (drop place script ≡ step ∷ drop (suc place) script))
place_in [] zero = inl (refl, refl)
place_in [] (suc place) = inl (refl, refl)
place_in (step ∷ steps) zero = inr (step, refl, refl)
place_in (step ∷ steps) (suc place) = place_in steps place

longer : (entries : List JudgedCall) (entry : JudgedCall)
    → length (entries ++ entry ∷ []) ≡ suc (length entries)
longer entries entry = omega (arith, length-append entries (entry ∷ []))

-- what comes after a step goes on with the record, or is its end
comes_on : (c : Cell) (next : Next) (rest : Outcome)
    → ComesBy next c.added (IsOutcome c.making.stack c.making.label.attempt
    (drop (suc (length c.entries)) c.making.script)) rest
    → IsWhole c (joined c.entries rest) → FollowsScript (after c next)
comes_on c (Goes entry more) rest comes whole =
    let entries : List JudgedCall = c.entries ++ entry ∷ [] in (
      comes.0,
      subst (λ place. IsOutcome c.making.stack c.making.label.attempt (drop place c.making.script)
          (c.added ++ more) comes.0) (sym (longer c.entries entry)) comes.1,
      subst (IsWhole c) (ap (joined c.entries) comes.2
          ∙ ap (λ (es : List JudgedCall). record { entries = es; added = comes.0.added; code = comes.0.code })
          (sym (append_assoc c.entries (entry ∷ []) comes.0.entries))) whole,
    )
comes_on c (Stops entry code) rest comes whole = subst (IsWhole c) (ap (joined c.entries) comes) whole
comes_on c (Over code) rest comes whole =
    subst (IsWhole c) (ap (joined c.entries) comes
    ∙ ap (λ (es : List JudgedCall). record { entries = es; added = c.added; code = code })
    (append-nil c.entries)) whole

pub goes_on : SaysOne → (c : Cell) (next : Next) → GoesOn c
    → IsNext (filters_of c) c.making.label.attempt (step_in c) next → FollowsScript (after c next)
goes_on one c next on is = elim (place_in c.making.script (length c.entries)) [
  | inl past ↦
      let over : next ≡ Over 0 = subst (λ s. IsNext (filters_of c) c.making.label.attempt s next) past.0 is in
      let comes = subst (λ (steps : List Step).
      IsOutcome c.making.stack c.making.label.attempt steps c.added on.0) past.1 on.1 in
      subst (λ n. FollowsScript (after c n)) (sym over) (comes_on c (Over 0) on.0 comes on.2)
  | inr here ↦
      let known = subst (λ s. IsNext (filters_of c) c.making.label.attempt s next) here.1 is in
      let comes = subst (λ (steps : List Step).
      IsOutcome c.making.stack c.making.label.attempt steps c.added on.0) here.2 on.1 in
      let same : comes.0 ≡ next = next_one one (filters_of c) c.making.label.attempt
      (Some here.0) comes.0 next comes.1 known in
      comes_on c next on.0 (subst (λ n. ComesBy n c.added
      (IsOutcome c.making.stack c.making.label.attempt (drop (suc (length c.entries)) c.making.script))
      on.0) same comes.2) on.2
]

steps_in : SaysOne → (state : State) (old : Cell) (did : Did) (new : Cell) → FollowsIn state old
    → old.state ≡ state → StepsIn state old did new → FollowsScript new
steps_in one Running old did new on is steps =
    subst FollowsScript (sym steps.3) (goes_on one old steps.0 on steps.1)
steps_in one Created old did new on is steps =
    subst FollowsScript (sym steps.1) (subst (λ s. FollowsIn s old) (sym is) on)
steps_in one (Exited code killed) old did new on is steps =
    subst FollowsScript (sym steps.1) (subst (λ s. FollowsIn s old) (sym is) on)

pub stepped_follows : SaysOne → (old : Cell) (did : Did) (new : Cell) → FollowsScript old → Steps old did new
    → FollowsScript new
stepped_follows one old did new follows steps = steps_in one old.state old did new follows refl steps

start_in : (state : State) (c : Cell) → FollowsIn state c
    → FollowsIn (started_state state) (with_state c (started_state state))
start_in Created c follows = follows.2
start_in Running c follows = follows
start_in (Exited code true) c follows = follows
start_in (Exited code false) c follows = follows

pub started_follows : (c : Cell) → FollowsScript c → FollowsScript (started c)
started_follows c follows = start_in c.state c follows

kill_in : (state : State) (c : Cell) (code : ℕ) → FollowsIn state c
    → FollowsIn (killed_state code state) (with_state c (killed_state code state))
kill_in Created c code follows = follows.2
kill_in Running c code follows = follows
kill_in (Exited own true) c code follows = follows
kill_in (Exited own false) c code follows = follows

pub killed_follows : (c : Cell) (code : ℕ) → FollowsScript c → FollowsScript (killed code c)
killed_follows c code follows = kill_in c.state c code follows

-- nothing came yet
pub fresh_goes_on : SaysSome → (making : Making) (state : State) → IsWellMade making
    → GoesOn (fresh making state)
fresh_goes_on some making state made =
    let whole = outcome_some some making.stack making.label.attempt making.script []
    (subst AllSound (sym (append-nil making.stack)) made.sound) made.fits in
    (whole.0, whole.1, whole.1)

pub fresh_follows : SaysSome → (making : Making) → IsWellMade making → FollowsScript (fresh making Created)
fresh_follows some making made = (refl, refl, fresh_goes_on some making Created made)
