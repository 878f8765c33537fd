-- The machine's registers and words follow the states of the run.
use Rattle.std.proofs.Common.{◌≡◌, ℕ, ◌+◌, ◌<◌, ◌≤◌, List, Some, length, get_or, slice_get, refl, sym, ap}
use Rattle.std.proofs.Common.{subst, ◌∙◌, arith, add-one}
use Rattle.std.proofs.lemmas.Option.{same_Some, none-some, slice_get-get_or}
use Rattle.bpf_code.specs.declared.insn.Insn.{Insn}
use Rattle.bpf_code.specs.declared.operation.Operation.TheVariants.{LoadImmediate}
use Rattle.call_data.specs.declared.sys_call.SysCall.{SysCall}
use Rattle.bpf_verify.specs.Sound.{IsSound, KeepsNumber}
use Rattle.bpf_verify.specs.Walks.{Follows, IsWalk}
use Rattle.bpf_machine.specs.Machine.{State, Next, Executes, Step, start}
use Rattle.bpf_machine.specs.Machine.Next.{Goes, Ends}
use Rattle.bpf_machine.specs.Runs.{Reaches, Runs}
use Rattle.bpf_machine.specs.Stands.{StandsFor, LeadsTo, GoesOn, EndsWith}
use Rattle.bpf_machine.specs.declared.step.Registers.{Registers}
use Rattle.bpf_machine.specs.declared.step.After.{After}
use Rattle.bpf_machine.specs.declared.step.After.TheVariants as after
use Rattle.bpf_machine.proofs.Progress.{WalksStay, stay_of, place_inside, count_below, progress, step_follows}

-- the instruction that the machine reads at a place of the code
abbrev pub insn_at : List Insn → ℕ → Insn
insn_at code place = get_or code place (record { op = LoadImmediate; jt = 0; jf = 0; k = 0 })

-- the invariant of the machine's loop: after this many steps the registers and the words represent the state
-- of the run, which is inside the code
pub record Turn (code : List Insn) (call : SysCall) (steps : ℕ) (r : Registers)
    (words : List ℕ) : Type 0 where
  pub state : State
  pub reached : Reaches code call steps state
  pub stands : StandsFor r words state
  pub stay : WalksStay code
  pub inside : r.place < length code
  pub bounded : steps ≤ r.place
  pub reads : slice_get code r.place ≡ Some (insn_at code r.place)
  pub number : KeepsNumber (insn_at code r.place).op (insn_at code r.place).k

turn_at : (code : List Insn) (call : SysCall) (steps : ℕ) (r : Registers) (words : List ℕ) (s : State)
    → IsSound code → WalksStay code
    → Reaches code call steps s → StandsFor r words s → Turn code call steps r words
turn_at code call steps r words s sound stay reached stands =
    let at : s.place < length code = place_inside code call steps s stay reached in
    let count : steps ≤ s.place = count_below code call steps s stay reached in
    let inside : r.place < length code = omega (arith, stands.place_is) in
    let reads : slice_get code r.place ≡ Some (insn_at code r.place) =
    slice_get-get_or code r.place _ inside in
    record {
      state = s;
      reached = reached;
      stands = stands;
      stay = stay;
      inside = inside;
      bounded = omega (arith, stands.place_is);
      reads = reads;
      number = (sound.places r.place (insn_at code r.place) reads).number;
    }

pub first_turn : (code : List Insn) (call : SysCall) (words : List ℕ)
    → ((any : List Insn) (from to : ℕ) → Follows any from to → from < to)
    → ((any : List Insn) (before : List ℕ) (at : ℕ) → IsSound any → IsWalk any before at → at < length any)
    → IsSound code → Turn code call 0 (record { place = 0; a = 0; x = 0 }) words
first_turn code call words forward inside sound =
    turn_at code call 0 _ words start sound (stay_of code forward inside sound) refl
    (record {
      place_is = refl;
      a_is = refl;
      x_is = refl;
      words_are = λ word value stored.
          absurd (none-some value stored);
    })

-- what follows if the machine's step matches the run's
pub record WentOn (code : List Insn) (call : SysCall) (steps : ℕ) (r on : Registers)
    (words : List ℕ) : Type 0 where
  pub turn : Turn code call (steps + 1) on words
  pub forward : r.place < on.place

abbrev pub Leads : List Insn → SysCall → ℕ → Registers → Insn → After → List ℕ → Type 0
Leads code call steps r insn (after.Goes a x) words =
    WentOn code call steps r (record { place = r.place + 1; a = a; x = x }) words
Leads code call steps r insn after.Holds words =
    WentOn code call steps r (record { place = r.place + 1 + insn.jt; a = r.a; x = r.x }) words
Leads code call steps r insn after.Fails words =
    WentOn code call steps r (record { place = r.place + 1 + insn.jf; a = r.a; x = r.x }) words
Leads code call steps r insn after.Skips words =
    WentOn code call steps r (record { place = r.place + 1 + insn.k; a = r.a; x = r.x }) words
Leads code call steps r insn (after.Ends value) words = Runs code call value (steps + 1)

went_on : (code : List Insn) (call : SysCall) (steps : ℕ) (r on : Registers) (s : State) (words : List ℕ)
    (next : Next) → IsSound code → WalksStay code
    → Reaches code call steps s → r.place ≡ s.place → Step call code s next → GoesOn on words next
    → WentOn code call steps r on words
went_on code call steps r on s words (Goes t) sound stay reached place step leads =
    let forward : s.place < t.place = stay.forward s.place t.place (step_follows code call s t step) in
    let one_more : Reaches code call (steps + 1) t = let P : ℕ → Type 0 = λ n. Reaches code call n t in
    subst P (sym (add-one steps)) (s, reached, step) in
    record {
      turn = turn_at code call (steps + 1) on words t sound stay one_more leads;
      forward =
          omega (arith, leads.place_is, place);
    }
went_on code call steps r on s words (Ends value) sound stay reached place step leads = absurd leads

ended : (code : List Insn) (call : SysCall) (steps value : ℕ) (s : State) (next : Next)
    → Reaches code call steps s → Step call code s next → EndsWith value next
    → Runs code call value (steps + 1)
ended code call steps value s (Goes t) reached step leads = absurd leads
ended code call steps value s (Ends given) reached step leads =
    record {
      last = s;
      before = steps;
      reached = reached;
      ends = let P : ℕ → Type 0 = λ v.
          Step call code s (Ends v) in subst P (sym leads) step;
      counted = refl;
    }

leads_on : (code : List Insn) (call : SysCall) (steps : ℕ) (r : Registers) (s : State) (insn : Insn)
    (given : After) (words : List ℕ) (next : Next) → IsSound code → WalksStay code
    → Reaches code call steps s → r.place ≡ s.place → Step call code s next → LeadsTo r insn given words next
    → Leads code call steps r insn given words
leads_on code call steps r s insn (after.Goes a x) words next sound stay reached place step leads =
    went_on code call steps r _ s words next sound stay reached place step leads
leads_on code call steps r s insn after.Holds words next sound stay reached place step leads =
    went_on code call steps r _ s words next sound stay reached place step leads
leads_on code call steps r s insn after.Fails words next sound stay reached place step leads =
    went_on code call steps r _ s words next sound stay reached place step leads
leads_on code call steps r s insn after.Skips words next sound stay reached place step leads =
    went_on code call steps r _ s words next sound stay reached place step leads
leads_on code call steps r s insn (after.Ends value) words next sound stay reached place step leads =
    ended code call steps value s next reached step leads

pub turn_leads : {code : List Insn} {call : SysCall} {steps : ℕ} {r : Registers} {words : List ℕ}
    (given : After) (new : List ℕ) → IsSound code → Turn code call steps r words
    → ((s : State) (next : Next) → StandsFor r words s
    → Executes (insn_at code r.place).op call (insn_at code r.place) s next
    → LeadsTo r (insn_at code r.place) given new next)
    → Leads code call steps r (insn_at code r.place) given new
turn_leads {code = code} {call = call} {steps = steps} {r = r} {words = words} given new sound turn follows =
    let insn : Insn = insn_at code r.place in
    let on = progress code call steps turn.state sound turn.stay turn.reached in
    let same : on.1.insn ≡ insn = same_Some on.1.insn insn (sym on.1.stands
    ∙ ap (λ i. slice_get code i) (sym turn.stands.place_is) ∙ turn.reads) in
    let P : Insn → Type 0 = λ i. Executes i.op call i turn.state on.0 in
    leads_on code call steps r turn.state insn given new on.0 sound turn.stay turn.reached
    turn.stands.place_is on.1 (follows turn.state on.0 turn.stands (subst P same on.1.executes))
