-- A walk goes on as the run of each of its calls does.
use Rattle.std.proofs.Common.{◌≡◌, ℕ, suc, ◌+◌, ◌<◌, Bool, true, false, ◌⊎◌, inl, inr, if◌then◌else◌, List}
use Rattle.std.proofs.Common.{Option, Some, length, get_or, slice_get, refl, sym, ap, subst, ◌∙◌}
use Rattle.std.proofs.lemmas.Option.{same_Some, slice_get-get_or}
use Rattle.bpf_code.specs.declared.insn.Insn.{Insn}
use Rattle.bpf_code.specs.declared.operation.Operation.TheVariants.{LoadImmediate}
use Rattle.call_data.specs.declared.sys_call.SysCall.{SysCall}
use Rattle.bpf_machine.specs.Machine.{State, Next, Executes, Step}
use Rattle.bpf_machine.specs.Machine.Next.{Goes, Ends}
use Rattle.bpf_machine.specs.Runs.{Reaches, NeverStuck}
use Rattle.bpf_compare.specs.declared.value.Value.{Value}
use Rattle.bpf_compare.specs.declared.known.Known.{Known}
use Rattle.bpf_compare.specs.declared.walk.Walk.{Walk}
use Rattle.bpf_compare.specs.declared.step.Registers.{Registers}
use Rattle.bpf_compare.specs.declared.step.After.{After}
use Rattle.bpf_compare.specs.declared.step.After.TheVariants as after
use Rattle.bpf_compare.specs.Known.{IsAmong, answer_on}
use Rattle.bpf_compare.specs.Stands.{StandsFor, GoesOn, EndsWith, LeadsTo, skipped}
use Rattle.bpf_compare.specs.Paths.{Follows, IsAt, ReturnsAs}

-- the instruction at a place of the code
abbrev pub insn_at : List Insn → ℕ → Insn
insn_at code place = get_or code place (record { op = LoadImmediate; jt = 0; jf = 0; k = 0 })

-- the call's run reaches a state that these represent
pub record Comes (code : List Insn) (call : SysCall) (registers : Registers)
    (words : List Value) : Type 0 where
  pub moment : ℕ
  pub state : State
  pub reached : Reaches code call moment state
  pub stands : StandsFor call registers words state

abbrev pub Led : List Insn → SysCall → Registers → Insn → After → List Value → Type 0
Led code call r insn (after.Goes a x) words =
    Comes code call (record { place = r.place + 1; a = a; x = x }) words
Led code call r insn after.Holds words = Comes code call (skipped r insn.jt) words
Led code call r insn after.Fails words = Comes code call (skipped r insn.jf) words
Led code call r insn (after.Asks question) words =
    Comes code call (skipped r (if answer_on call question then insn.jt else insn.jf)) words
Led code call r insn after.Skips words = Comes code call (skipped r insn.k) words
Led code call r insn (after.Ends value) words = ReturnsAs code call value
Led code call r insn after.Unclear words = Unit {0}

goes_on : (code : List Insn) (call : SysCall) (n : ℕ) (s : State) (on : Registers) (words : List Value)
    (next : Next) → Reaches code call n s → Step call code s next → GoesOn call on words next
    → Comes code call on words
goes_on code call n s on words (Goes t) reached step stands =
    record { moment = suc n; state = t; reached = (s, reached, step); stands = stands }
goes_on code call n s on words (Ends value) reached step stands = absurd stands

ends : (code : List Insn) (call : SysCall) (n : ℕ) (value : Value) (s : State) (next : Next)
    → Reaches code call n s → Step call code s next → EndsWith call value next → ReturnsAs code call value
ends code call n value s (Goes t) reached step is = absurd is
ends code call n value s (Ends given) reached step is = record {
  number = given;
  denotes = is;
  returns = record {
    steps = n + 1;
    run = record { last = s; before = n; reached = reached; ends = step; counted = refl };
  };
}

led : (code : List Insn) (call : SysCall) (n : ℕ) (s : State) (r : Registers) (insn : Insn) (given : After)
    (words : List Value) (next : Next) → Reaches code call n s → Step call code s next
    → LeadsTo call r insn given words next → Led code call r insn given words
led code call n s r insn (after.Goes a x) words next reached step leads =
    goes_on code call n s _ words next reached step leads
led code call n s r insn after.Holds words next reached step leads =
    goes_on code call n s _ words next reached step leads
led code call n s r insn after.Fails words next reached step leads =
    goes_on code call n s _ words next reached step leads
led code call n s r insn (after.Asks question) words next reached step leads =
    goes_on code call n s _ words next reached step leads
led code call n s r insn after.Skips words next reached step leads =
    goes_on code call n s _ words next reached step leads
led code call n s r insn (after.Ends value) words next reached step leads =
    ends code call n value s next reached step leads
led code call n s r insn after.Unclear words next reached step leads = tt

-- what the machine's step from there leads to
pub turned : {code : List Insn} {call : SysCall} {walk : Walk} (given : After) (new : List Value)
    → NeverStuck code call → walk.registers.place < length code
    → ((s : State) (next : Next) → StandsFor call walk.registers walk.words s
    → Executes (insn_at code walk.registers.place).op call (insn_at code walk.registers.place) s next
    → LeadsTo call walk.registers (insn_at code walk.registers.place) given new next)
    → Follows code call walk → Led code call walk.registers (insn_at code walk.registers.place) given new
turned {code = code} {call = call} {walk = walk} given new never_stuck inside follows at =
    let insn : Insn = insn_at code walk.registers.place in
    let on = never_stuck at.moment at.state at.reached in
    let reads : slice_get code walk.registers.place ≡ Some insn =
    slice_get-get_or code walk.registers.place _ inside in
    let same : on.1.insn ≡ insn = same_Some on.1.insn insn (sym on.1.stands
    ∙ ap (λ i. slice_get code i) (sym at.stands.place_is) ∙ reads) in
    let P : Insn → Type 0 = λ i. Executes i.op call i at.state on.0 in
    led code call at.moment at.state walk.registers insn given new on.0 at.reached on.1
    (follows at.state on.0 at.stands (subst P same on.1.executes))

-- and so the call follows the new walk
pub followed : {code : List Insn} {call : SysCall} {on : Registers} (r : Registers) {words : List Value}
    (known : Known) → r ≡ on → Comes code call on words → IsAmong known call
    → Follows code call (record { registers = r; words = words; known = known })
followed {code = code} {call = call} {on = on} r {words = words} known same comes among = record {
  moment = comes.moment;
  state = comes.state;
  reached = comes.reached;
  stands = let P : Registers → Type 0 = λ q. StandsFor call q words comes.state in
      subst P (sym same) comes.stands;
  among = among;
}

-- a walk whose set decides the question
pub asked : (code : List Insn) (call : SysCall) (r : Registers) (jt jf : ℕ) (words : List Value)
    (answer holds : Bool) → answer ≡ holds
    → Comes code call (skipped r (if answer then jt else jf)) words
    → Comes code call (skipped r (if holds then jt else jf)) words
asked code call r jt jf words answer holds same comes =
    let P : Bool → Type 0 = λ b. Comes code call (skipped r (if b then jt else jf)) words in
    subst P same comes

pub true_or_false : (b : Bool) → (b ≡ true) ⊎ (b ≡ false)
true_or_false true = inl refl
true_or_false false = inr refl

-- a walk of fewer calls, at the same place
pub learned : {code : List Insn} {call : SysCall} {walk : Walk} (known : Known) → Follows code call walk
    → IsAmong known call
    → Follows code call (record { registers = walk.registers; words = walk.words; known = known })
learned known follows among = record {
  moment = follows.moment;
  state = follows.state;
  reached = follows.reached;
  stands = follows.stands;
  among = among;
}

-- a path in the second filter
pub in_second : (first second : List Insn) (call : SysCall) (value : Option Value) (one : Value) (walk : Walk)
    → value ≡ Some one → ReturnsAs first call one → Follows second call walk
    → IsAt first second call value walk
in_second first second call value one walk is returns follows = let P : Option Value → Type 0 = λ it.
    IsAt first second call it walk in subst P (sym is) (returns, follows)
