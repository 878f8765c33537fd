-- Which states the registers and words of a path represent. Only private functions cite this.
use Rattle.std.specs.Prelude.{◌≡◌, ℕ, ◌+◌, Bool, true, false, if◌then◌else◌, List, Some, slice_index_or}
use Rattle.bpf_code.specs.declared.insn.Insn.{Insn}
use Rattle.call_data.specs.declared.sys_call.SysCall.{SysCall}
use Rattle.bpf_machine.specs.Machine.{State, Next}
use Rattle.bpf_machine.specs.Machine.Next.{Goes, Ends}
use Rattle.bpf_compare.specs.declared.value.Value.{Value}
use Rattle.bpf_compare.specs.declared.step.Registers.{Registers}
use Rattle.bpf_compare.specs.declared.step.After.{After}
use Rattle.bpf_compare.specs.declared.step.After.TheVariants as after
use Rattle.bpf_compare.specs.Known.{answer_on}
use Rattle.bpf_compare.specs.Value.{Denotes}

-- Words that were not stored may be known as anything.
pub record StandsFor (call : SysCall) (registers : Registers) (words : List Value) (s : State) : Type 0 where
  pub place_is : registers.place ≡ s.place
  pub a_is : Denotes call registers.a s.a
  pub x_is : Denotes call registers.x s.x
  pub words_are : (word value : ℕ) (given : Value) → s.words word ≡ Some value
      → Denotes call (slice_index_or words word given) value

-- the path goes on with the result of the step
abbrev pub GoesOn : SysCall → Registers → List Value → Next → Type 0
GoesOn call registers words (Goes s) = StandsFor call registers words s
GoesOn call registers words (Ends given) = ⊥

abbrev pub EndsWith : SysCall → Value → Next → Type 0
EndsWith call value (Goes s) = ⊥
EndsWith call value (Ends given) = Denotes call value given

abbrev pub skipped : Registers → ℕ → Registers
skipped r count = record { place = r.place + 1 + count; a = r.a; x = r.x }

-- the result for a test agrees with its answer
abbrev pub Answers : SysCall → After → Bool → Type 0
Answers call after.Holds holds = holds ≡ true
Answers call after.Fails holds = holds ≡ false
Answers call (after.Asks question) holds = answer_on call question ≡ holds
Answers call after.Unclear holds = Unit {0}
Answers call (after.Goes a x) holds = ⊥
Answers call after.Skips holds = ⊥
Answers call (after.Ends value) holds = ⊥

-- the result for an instruction agrees with the machine's step
abbrev pub LeadsTo : SysCall → Registers → Insn → After → List Value → Next → Type 0
LeadsTo call r insn (after.Goes a x) words next =
    GoesOn call (record { place = r.place + 1; a = a; x = x }) words next
LeadsTo call r insn after.Holds words next = GoesOn call (skipped r insn.jt) words next
LeadsTo call r insn after.Fails words next = GoesOn call (skipped r insn.jf) words next
LeadsTo call r insn (after.Asks question) words next =
    GoesOn call (skipped r (if answer_on call question then insn.jt else insn.jf)) words next
LeadsTo call r insn after.Skips words next = GoesOn call (skipped r insn.k) words next
LeadsTo call r insn (after.Ends value) words next = EndsWith call value next
LeadsTo call r insn after.Unclear words next = Unit {0}
