-- A played cell ends by itself.
use Rattle.std.proofs.Common.{◌≡◌, ℕ, ◌+◌, ◌-◌, ◌<◌, ◌≤◌, List, [], length, Some, None}
use Rattle.std.proofs.Common.{false, refl, sym, ap, subst, ◌∙◌, arith}
use Rattle.bpf_code.specs.declared.insn.Insn.{Insn}
use Rattle.script.specs.declared.scripts.Step.{Step}
use Rattle.runtime_cell.specs.declared.cell.Did.{Did}
use Rattle.runtime_cell.specs.declared.cell.State.{State}
use Rattle.runtime_cell.specs.declared.cell.State.TheVariants.{Created, Running, Exited}
use Rattle.runtime_cell.specs.Cell.{Cell, FollowsIn, FollowsScript, Making, Steps, StepsIn, after, alone}
use Rattle.runtime_cell.specs.Cell.{exit_of}
use Rattle.runtime_cell.specs.Outcome.{IsOutcome, Next}
use Rattle.runtime_cell.specs.Outcome.Next.{Goes, Stops, Over}
use Rattle.seccheck_output.specs.Playing.{IsPlaying}

plays_after : (c : Cell) (next : Next) → IsPlaying (after c next).state
plays_after c (Goes entry more) = tt
plays_after c (Stops entry code) = refl
plays_after c (Over code) = refl

plays_in : (state : State) (old : Cell) (did : Did) (new : Cell) → old.state ≡ state → IsPlaying state
    → StepsIn state old did new → IsPlaying new.state
plays_in Running old did new is plays steps =
    subst (λ (c : Cell). IsPlaying c.state) (sym steps.3) (plays_after old steps.0)
plays_in Created old did new is plays steps = absurd plays
plays_in (Exited code killed) old did new is plays steps =
    subst (λ (c : Cell). IsPlaying c.state) (sym steps.1) (subst IsPlaying (sym is) plays)

pub plays_on : (old : Cell) (did : Did) (new : Cell) → IsPlaying old.state → Steps old did new
    → IsPlaying new.state
plays_on old did new plays steps = plays_in old.state old did new refl plays steps

-- how many steps a script may still take
abbrev pub steps_left : State → ℕ → ℕ → ℕ
steps_left Running script entries = script - entries + 1
steps_left _ script entries = 0

runs_still : (state : State) → IsPlaying state → exit_of state ≡ None → state ≡ Running
runs_still Created plays none = absurd plays
runs_still Running plays none = refl
runs_still (Exited code killed) plays none = absurd cc

fewer_in : (state : State) (script before now : ℕ) → (state ≡ Running → (now ≡ before + 1) × (now ≤ script))
    → steps_left state script now < script - before + 1
fewer_in Created script before now onward = omega arith
fewer_in Running script before now onward = omega (arith, (onward refl).0, (onward refl).1)
fewer_in (Exited code killed) script before now onward = omega arith

pub fewer_left : (old new : Cell) → IsPlaying old.state → exit_of old.state ≡ None → new.making ≡ old.making
    → (new.state ≡ Running → (length new.entries ≡ length old.entries + 1)
    × (length new.entries ≤ length new.making.script))
    → steps_left new.state (length new.making.script) (length new.entries) < steps_left old.state
    (length old.making.script) (length old.entries)
fewer_left old new plays none same onward =
    let script : length new.making.script ≡ length old.making.script =
    ap (λ (m : Making). length m.script) same in
    let before : steps_left old.state (length old.making.script) (length old.entries)
    ≡ length old.making.script - length old.entries + 1 =
    ap (λ s. steps_left s (length old.making.script) (length old.entries))
    (runs_still old.state plays none) in
    omega (
      arith,
      script,
      before,
      fewer_in new.state (length new.making.script) (length old.entries)
          (length new.entries) onward,
    )

own_end : (state : State) (code : ℕ) → IsPlaying state → exit_of state ≡ Some code → state ≡ Exited code false
own_end Created code plays ended = absurd plays
own_end Running code plays ended = absurd cc
own_end (Exited own killed) code plays ended =
    let same : own ≡ code = cc in
    ap (λ k. Exited own k) plays ∙ ap (λ n. Exited n false) same

pub ends : (c : Cell) (code : ℕ) → IsPlaying c.state → exit_of c.state ≡ Some code
    → c.state ≡ Exited code false
ends c code plays ended = own_end c.state code plays ended

-- a script that has ended
pub ended : (script : List Step) (stack : List (List Insn)) (attempt : ℕ) (made c : Cell) (code : ℕ)
    → made.making ≡ alone script stack attempt → c.making ≡ made.making
    → c.state ≡ Exited code false → FollowsScript c
    → IsOutcome stack attempt script [] (record { entries = c.entries; added = c.added; code = code })
ended script stack attempt made c code is same state follows =
    let whole = subst (λ s. FollowsIn s c) state follows in
    subst (λ (m : Making). IsOutcome m.stack m.label.attempt m.script []
    (record { entries = c.entries; added = c.added; code = code })) (same ∙ is) whole
