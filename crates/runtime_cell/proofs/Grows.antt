-- A changed cell is a later one, and how a call is added to its record.
use Rattle.std.proofs.Common.{◌≡◌, ◌⊎◌, inl, inr, ℕ, List, [], ◌∷◌, ◌++◌, Option, Some, None, Bool, true}
use Rattle.std.proofs.Common.{false, refl, sym, ap, subst, ◌∙◌}
use Rattle.std.proofs.lemmas.List.{append-nil, append_assoc}
use Rattle.action.specs.Verdict.{performs_of}
use Rattle.bpf_code.specs.declared.insn.Insn.{Insn}
use Rattle.call_data.specs.declared.sys_call.SysCall.{SysCall}
use Rattle.script.specs.declared.scripts.Step.{Step}
use Rattle.script.specs.declared.scripts.Step.TheVariants.{Call, Exit, ExitByAttempt, Install}
use Rattle.runtime_cell.specs.declared.calls.JudgedCall.{JudgedCall}
use Rattle.runtime_cell.specs.declared.cell.Did.{Did}
use Rattle.runtime_cell.specs.declared.cell.State.{State}
use Rattle.runtime_cell.specs.declared.cell.State.TheVariants.{Created, Running, Exited}
use Rattle.runtime_cell.specs.Cell.{Cell, Steps, StepsIn, after, filters_of, killed, killed_state, started}
use Rattle.runtime_cell.specs.Cell.{started_state, step_in}
use Rattle.runtime_cell.specs.Laws.{IsAdded, IsLater, TakesUp, call_of}
use Rattle.runtime_cell.specs.Outcome.{Next, IsNext, end_of, entry_of, has_place, install_call, installed}
use Rattle.runtime_cell.specs.Outcome.{judged}
use Rattle.runtime_cell.specs.Outcome.Next.{Goes, Stops, Over}

pub later_same : (c : Cell) → IsLater c c
later_same c = record {
  making = refl;
  entries = ([], sym (append-nil c.entries));
  added = ([], sym (append-nil c.added));
  exit = λ code killed is. refl;
  start = λ is. refl;
}

ended_stays : (first then last : Cell) → ((code : ℕ) (killed : Bool) → first.state ≡ Exited code killed →
    then ≡ first) → ((code : ℕ) (killed : Bool) → then.state ≡ Exited code killed → last ≡ then)
    → (code : ℕ) (killed : Bool) → first.state ≡ Exited code killed → last ≡ first
ended_stays first then last one other code killed is =
    let same : then ≡ first = one code killed is in
    other code killed (ap (λ (c : Cell). c.state) same ∙ is) ∙ same

pub later_on : (first then last : Cell) → IsLater first then → IsLater then last → IsLater first last
later_on first then last one other = record {
  making = other.making ∙ one.making;
  entries = (
    one.entries.0 ++ other.entries.0,
    other.entries.1
        ∙ ap (λ es. es ++ other.entries.0) one.entries.1
        ∙ append_assoc first.entries one.entries.0 other.entries.0,
  );
  added = (
    one.added.0 ++ other.added.0,
    other.added.1 ∙ ap (λ fs. fs ++ other.added.0) one.added.1
        ∙ append_assoc first.added one.added.0 other.added.0,
  );
  exit = ended_stays first then last one.exit other.exit;
  start = λ is.
      let same : last ≡ then = other.start is in
      same ∙ one.start (ap (λ (c : Cell). c.state) (sym same) ∙ is);
}

-- only the state may differ
abbrev pub MayBecome : State → State → Type 0
MayBecome old new = ((code : ℕ) (killed : Bool) → old ≡ Exited code killed → new ≡ old)
    × (new ≡ Created → new ≡ old)

later_state : (c : Cell) (state : State) → MayBecome c.state state
    → IsLater c (record { making = c.making; state = state; entries = c.entries; added = c.added })
later_state c state may = record {
  making = refl;
  entries = ([], sym (append-nil c.entries));
  added = ([], sym (append-nil c.added));
  exit = λ code killed is. ap (λ (s : State).
      record { making = c.making; state = s; entries = c.entries; added = c.added }) (may.0 code killed is);
  start = λ is. ap (λ (s : State). record {
    making = c.making;
    state = s;
    entries = c.entries;
    added =
        c.added;
  }) (may.1 is);
}

start_may : (state : State) → MayBecome state (started_state state)
start_may Created = (λ code killed is. absurd cc, λ is. absurd cc)
start_may Running = (λ code killed is. refl, λ is. refl)
start_may (Exited code killed) = (λ other by is. refl, λ is. refl)

kill_may : (state : State) (code : ℕ) → MayBecome state (killed_state code state)
kill_may Created code = (λ other by is. absurd cc, λ is. absurd cc)
kill_may Running code = (λ other by is. absurd cc, λ is. absurd cc)
kill_may (Exited own killed) code = (λ other by is. refl, λ is. refl)

pub later_started : (c : Cell) → IsLater c (started c)
later_started c = later_state c (started_state c.state) (start_may c.state)

pub later_killed : (c : Cell) (code : ℕ) → IsLater c (killed code c)
later_killed c code = later_state c (killed_state code c.state) (kill_may c.state code)

not_ended : (c : Cell) (code : ℕ) (killed : Bool) → c.state ≡ Running → c.state ≡ Exited code killed → ⊥
not_ended c code killed runs ended =
    let never : Running ≡ Exited code killed = sym runs ∙ ended in
    absurd cc

later_after : (c : Cell) (next : Next) → c.state ≡ Running → IsLater c (after c next)
later_after c (Goes entry more) runs = record {
  making = refl;
  entries = (entry ∷ [], refl);
  added = (more, refl);
  exit = λ code killed is. absurd (not_ended c code killed runs is);
  start = λ is. absurd cc;
}
later_after c (Stops entry code) runs = record {
  making = refl;
  entries = (entry ∷ [], refl);
  added = ([], sym (append-nil c.added));
  exit = λ other killed is. absurd (not_ended c other killed runs is);
  start = λ is. absurd cc;
}
later_after c (Over code) runs = record {
  making = refl;
  entries = ([], sym (append-nil c.entries));
  added = ([], sym (append-nil c.added));
  exit = λ other killed is. absurd (not_ended c other killed runs is);
  start = λ is. absurd cc;
}

later_in : (state : State) (old : Cell) (did : Did) (new : Cell) → old.state ≡ state
    → StepsIn state old did new → IsLater old new
later_in Running old did new is steps = subst (IsLater old) (sym steps.3) (later_after old steps.0 is)
later_in Created old did new is steps = subst (IsLater old) (sym steps.1) (later_same old)
later_in (Exited code killed) old did new is steps = subst (IsLater old) (sym steps.1) (later_same old)

pub later_stepped : (old : Cell) (did : Did) (new : Cell) → Steps old did new → IsLater old new
later_stepped old did new steps = later_in old.state old did new refl steps

-- a judged call is the last entry
judged_last : (c : Cell) (entry : JudgedCall) (end : Option ℕ)
    → (after c (judged entry end)).entries ≡ c.entries ++ entry ∷ []
judged_last c entry None = refl
judged_last c entry (Some code) = refl

installed_last : (c : Cell) (filter : List Insn) (entry : JudgedCall) (end on_error : Option ℕ)
    (performs place : Bool)
    → (after c (installed filter entry end on_error performs place)).entries ≡ c.entries ++ entry ∷ []
installed_last c filter entry end on_error true true = refl
installed_last c filter entry end on_error true false = judged_last c entry _
installed_last c filter entry end on_error false place = judged_last c entry end

taken_by : (old new : Cell) (next : Next) (step : Option Step) (call : SysCall)
    → IsNext (filters_of old) old.making.label.attempt step next → call_of step ≡ Some call
    → new ≡ after old next → IsAdded old new call
taken_by old new next None call is takes new_is = absurd cc
taken_by old new next (Some (Call own on_error)) call is takes new_is =
    let same : own ≡ call = cc in
    subst (IsAdded old new) same (record {
      verdict = is.0;
      judged = is.1;
      entries = ap (λ (c : Cell). c.entries) new_is ∙ ap (λ (n : Next). (after old n).entries) is.2
          ∙ judged_last old (entry_of own is.0) (end_of is.0 on_error);
    })
taken_by old new next (Some (Exit code)) call is takes new_is = absurd cc
taken_by old new next (Some (ExitByAttempt codes)) call is takes new_is = absurd cc
taken_by old new next (Some (Install filter on_error)) call is takes new_is =
    let same : install_call ≡ call = cc in
    subst (IsAdded old new) same (record {
      verdict = is.0;
      judged = is.1;
      entries = ap (λ (c : Cell). c.entries) new_is ∙ ap (λ (n : Next). (after old n).entries) is.2
          ∙ installed_last old filter (entry_of install_call is.0) (end_of is.0 on_error) on_error
          (performs_of is.0.action) (has_place (filters_of old) filter);
    })

taken_in : (state : State) (old : Cell) (did : Did) (new : Cell) (call : SysCall) → state ≡ Running
    → call_of (step_in old) ≡ Some call → StepsIn state old did new → IsAdded old new call
taken_in Running old did new call runs takes steps =
    taken_by old new steps.0 (step_in old) call steps.1 takes steps.3
taken_in Created old did new call runs takes steps = absurd cc
taken_in (Exited code killed) old did new call runs takes steps = absurd cc

pub taken : (old : Cell) (did : Did) (new : Cell) (call : SysCall) → Steps old did new → TakesUp old call
    → IsAdded old new call
taken old did new call steps takes = taken_in old.state old did new call takes.runs takes.is_next steps

-- if the step makes no call, nothing is added
added_by : (old : Cell) (next : Next) (step : Option Step)
    → IsNext (filters_of old) old.making.label.attempt step next
    → ((after old next).entries ≡ old.entries) ⊎ ((call : SysCall) × (call_of step ≡ Some call))
added_by old next None is = inl (ap (λ (n : Next). (after old n).entries) is)
added_by old next (Some (Call own on_error)) is = inr (own, refl)
added_by old next (Some (Exit code)) is = inl (ap (λ (n : Next). (after old n).entries) is)
added_by old next (Some (ExitByAttempt codes)) is = inl (ap (λ (n : Next). (after old n).entries) is)
added_by old next (Some (Install filter on_error)) is = inr (install_call, refl)

added_in : (state : State) (old : Cell) (did : Did) (new : Cell) → old.state ≡ state
    → StepsIn state old did new → (new.entries ≡ old.entries) ⊎ ((call : SysCall) × TakesUp old call)
added_in Running old did new is steps = elim (added_by old steps.0 (step_in old) steps.1) [
  | inl same ↦ inl (ap (λ (c : Cell). c.entries) steps.3 ∙ same)
  | inr takes ↦ inr (takes.0, record { runs = is; is_next = takes.1 })
]
added_in Created old did new is steps = inl (ap (λ (c : Cell). c.entries) steps.1)
added_in (Exited code killed) old did new is steps = inl (ap (λ (c : Cell). c.entries) steps.1)

pub added : (old : Cell) (did : Did) (new : Cell) → Steps old did new
    → (new.entries ≡ old.entries) ⊎ ((call : SysCall) × TakesUp old call)
added old did new steps = added_in old.state old did new refl steps
