-- A run of sound code follows a walk, so it never gets stuck, and it ends within the code's length.
use Rattle.std.proofs.Common.{◌≡◌, ℕ, zero, suc, ◌+◌, ◌<◌, ◌≤◌, inl, inr, Some, List, [], ◌∷◌, length, get_or}
use Rattle.std.proofs.Common.{slice_get, refl, sym, ap, subst, ◌∙◌, arith}
use Rattle.std.proofs.lemmas.Option.{slice_get-get_or, same_Some}
use Rattle.std.proofs.lemmas.Bool.{cases_eq}
use Rattle.bpf_code.specs.declared.insn.Insn.{Insn}
use Rattle.bpf_code.specs.declared.operation.Operation.TheVariants.{LoadImmediate}
use Rattle.bpf_code.specs.Flow.{scratch_of}
use Rattle.call_data.specs.declared.sys_call.SysCall.{SysCall}
use Rattle.bpf_verify.specs.Walks.{Follows, IsWalk, StoresWord, IsStoredOn}
use Rattle.bpf_verify.specs.Sound.{IsSound, KeepsRules}
use Rattle.bpf_machine.specs.Machine.{State, Next, Executes, Step, start}
use Rattle.bpf_machine.specs.Machine.Next.{Goes, Ends}
use Rattle.bpf_machine.specs.Runs.{Reaches, Runs}
use Rattle.bpf_machine.proofs.Steps.{IsKnown, moves, keeps_words, stores_word, executes, Executes-unique}
use Rattle.bpf_machine.proofs.Steps.{goes_same, goes_not_ends}

-- the walk that led to a state, with the words that the state has stored
pub record Trace (code : List Insn) (s : State) : Type 0 where
  pub before : List ℕ
  pub walk : IsWalk code before s.place
  pub known : (word : ℕ) → IsStoredOn code word before → IsKnown s word

pub step_follows : (code : List Insn) (call : SysCall) (s t : State) → Step call code s (Goes t)
    → Follows code s.place t.place
step_follows code call s t step = record {
  insn = step.insn;
  stands = step.stands;
  goes =
      moves step.insn.op call step.insn s t step.executes;
}

step_knows : (code : List Insn) (call : SysCall) (s t : State) (step : Step call code s (Goes t)) (word : ℕ)
    → StoresWord code word s.place → IsKnown t word
step_knows code call s t step word stores =
    let same : stores.insn ≡ step.insn = same_Some stores.insn step.insn (sym stores.stands ∙ step.stands) in
    let known : IsKnown t step.insn.k = stores_word step.insn.op call step.insn s t
    (ap (λ (i : Insn). scratch_of i.op) (sym same) ∙ stores.stores) step.executes in
    let P : ℕ → Type 0 = λ w. IsKnown t w in
    subst P (ap (λ (i : Insn). i.k) (sym same) ∙ stores.word_is) known

trace_step : (code : List Insn) (call : SysCall) (s t : State) → Trace code s → Step call code s (Goes t)
    → Trace code t
trace_step code call s t trace step = record {
  before = s.place ∷ trace.before;
  walk = (trace.walk, step_follows code call s t step);
  known = λ word stored. elim stored [
    | inl here ↦ step_knows code call s t step word here
    | inr earlier ↦ keeps_words step.insn.op call step.insn s t word step.executes (trace.known word earlier)
  ];
}

pub trace_of : (code : List Insn) (call : SysCall) (n : ℕ) (s : State) → Reaches code call n s → Trace code s
trace_of code call zero s reached = record {
  before = [];
  walk = ap (λ (u : State). u.place) reached;
  known =
      λ word stored. absurd stored;
}
trace_of code call (suc n) s reached = trace_step code call reached.0 s
    (trace_of code call n reached.0 reached.1) reached.2

-- what the verifier ensures for the walks through this code
pub record WalksStay (code : List Insn) : Type 0 where
  pub forward : (from to : ℕ) → Follows code from to → from < to
  pub inside : (before : List ℕ) (at : ℕ) → IsWalk code before at → at < length code

pub stay_of : (code : List Insn) → ((any : List Insn) (from to : ℕ) → Follows any from to → from < to)
    → ((any : List Insn) (before : List ℕ) (at : ℕ) → IsSound any → IsWalk any before at → at < length any)
    → IsSound code → WalksStay code
stay_of code forward inside sound = record {
  forward = forward code;
  inside = λ before at.
      inside code before at sound;
}

pub place_inside : (code : List Insn) (call : SysCall) (n : ℕ) (s : State) → WalksStay code
    → Reaches code call n s → s.place < length code
place_inside code call n s stay reached =
    let trace = trace_of code call n s reached in stay.inside trace.before s.place trace.walk

-- each step goes forward, so there are no more steps than places
pub count_below : (code : List Insn) (call : SysCall) (n : ℕ) (s : State) → WalksStay code
    → Reaches code call n s → n ≤ s.place
count_below code call zero s stay reached = omega arith
count_below code call (suc n) s stay reached =
    let so_far : n ≤ reached.0.place = count_below code call n reached.0 stay reached.1 in
    let more : reached.0.place < s.place =
    stay.forward reached.0.place s.place (step_follows code call reached.0 s reached.2) in
    omega arith

-- sound code is never stuck
pub progress : (code : List Insn) (call : SysCall) (n : ℕ) (s : State) → IsSound code → WalksStay code
    → Reaches code call n s → (next : Next) × Step call code s next
progress code call n s sound stay reached =
    let trace = trace_of code call n s reached in
    let insn : Insn = get_or code s.place (record { op = LoadImmediate; jt = 0; jf = 0; k = 0 }) in
    let stands : slice_get code s.place ≡ Some insn =
    slice_get-get_or code s.place _ (place_inside code call n s stay reached) in
    let rules : KeepsRules (length code) s.place insn = sound.places s.place insn stands in
    let does = executes insn.op call insn s rules.number (λ loads.
    trace.known insn.k (sound.words s.place insn stands loads trace.before trace.walk)) in
    (does.0, record { insn = insn; stands = stands; executes = does.1 })

-- a step is determined, and so are the states that are reached
pub Step-unique : (code : List Insn) (call : SysCall) (s : State) (n m : Next) → Step call code s n
    → Step call code s m → n ≡ m
Step-unique code call s n m one two =
    let same : two.insn ≡ one.insn = same_Some two.insn one.insn (sym two.stands ∙ one.stands) in
    let P : Insn → Type 0 = λ i. Executes i.op call i s m in
    Executes-unique one.insn.op call one.insn s n m one.executes (subst P same two.executes)

step_at : (code : List Insn) (call : SysCall) (s t : State) (n : Next) → t ≡ s → Step call code t n
    → Step call code s n
step_at code call s t n same step = let P : State → Type 0 = λ u. Step call code u n in subst P same step

pub Reaches-unique : (code : List Insn) (call : SysCall) (n : ℕ) (s t : State) → Reaches code call n s
    → Reaches code call n t → s ≡ t
Reaches-unique code call zero s t one two = one ∙ sym two
Reaches-unique code call (suc n) s t one two =
    let before : two.0 ≡ one.0 = Reaches-unique code call n two.0 one.0 two.1 one.1 in
    goes_same s t (Step-unique code call one.0 (Goes s) (Goes t) one.2
    (step_at code call one.0 two.0 (Goes t) before two.2))

-- the state after fewer steps went on
goes_on_at : (code : List Insn) (call : SysCall) (k n : ℕ) (s : State) → k < n → Reaches code call n s
    → (t : State) × Reaches code call k t × (u : State) × Step call code t (Goes u)
goes_on_at code call k zero s below reached = absurd (omega arith)
goes_on_at code call k (suc n) s below reached = elim (cases_eq k n) [
  | inl same ↦
      let P : ℕ → Type 0 = λ i. Reaches code call i reached.0 in
      (reached.0, subst P (sym same) reached.1, s, reached.2)
  | inr other ↦ goes_on_at code call k n reached.0 (omega arith) reached.1
]

not_longer : (code : List Insn) (call : SysCall) (v w m n : ℕ) (one : Runs code call v m)
    (two : Runs code call w n) → one.before < two.before → ⊥
not_longer code call v w m n one two below =
    let on = goes_on_at code call one.before two.before two.last below two.reached in
    let same : one.last ≡ on.0 = Reaches-unique code call one.before one.last on.0 one.reached on.1 in
    goes_not_ends on.2 v (Step-unique code call on.0 (Goes on.2) (Ends v) on.3
    (step_at code call on.0 one.last (Ends v) same one.ends))

ends_same : (v w : ℕ) → Ends v ≡ Ends w → v ≡ w
ends_same v w e = cc

-- a run is the only one
pub Runs-unique : (code : List Insn) (call : SysCall) (v w m n : ℕ) → Runs code call v m → Runs code call w n
    → (v ≡ w) × (m ≡ n)
Runs-unique code call v w m n one two =
    let moment : one.before ≡ two.before =
    omega (arith, not_longer code call v w m n one two, not_longer code call w v n m two one) in
    let P : ℕ → Type 0 = λ i. Reaches code call i one.last in
    let same : one.last ≡ two.last = Reaches-unique code call two.before one.last two.last
    (subst P moment one.reached) two.reached in (
      ends_same v w (Step-unique code call two.last (Ends v) (Ends w)
          (step_at code call two.last one.last (Ends v) same one.ends) two.ends),
      omega (arith, one.counted, two.counted),
    )

-- sound code has a run
run_from : (code : List Insn) (call : SysCall) (fuel n : ℕ) (s : State) → IsSound code → WalksStay code
    → Reaches code call n s → length code ≤ s.place + fuel → (value : ℕ) × (steps : ℕ)
    × Runs code call value steps
run_from code call zero n s sound stay reached enough =
    absurd (omega (arith, place_inside code call n s stay reached))
run_from code call (suc fuel) n s sound stay reached enough =
    let on = progress code call n s sound stay reached in
    elim on.0 as (λ next. Step call code s next → (value : ℕ) × (steps : ℕ) × Runs code call value steps) [
      | Ends value ↦ λ step. (
        value,
        n + 1,
        record { last = s; before = n; reached = reached; ends = step; counted = refl },
      )
      | Goes t ↦ λ step.
          let more : s.place < t.place = stay.forward s.place t.place (step_follows code call s t step) in
          run_from code call fuel (suc n) t sound stay (s, reached, step) (omega arith)
    ] on.1

pub run_exists : (code : List Insn) (call : SysCall) → IsSound code → WalksStay code → (value : ℕ)
    × (steps : ℕ) × Runs code call value steps
run_exists code call sound stay = run_from code call (length code) 0 start sound stay refl (omega arith)

pub steps_bounded : (code : List Insn) (call : SysCall) (value steps : ℕ) → WalksStay code
    → Runs code call value steps → steps ≤ length code
steps_bounded code call value steps stay run =
    let count : run.before ≤ run.last.place = count_below code call run.before run.last stay run.reached in
    let inside : run.last.place < length code = place_inside code call run.before run.last stay run.reached in
    omega (arith, run.counted)
