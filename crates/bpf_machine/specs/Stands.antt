-- Which state the machine's registers and words represent. Only private functions cite this.
use Rattle.std.specs.Prelude.{◌≡◌, ℕ, ◌+◌, List, Some, slice_index}
use Rattle.bpf_code.specs.declared.insn.Insn.{Insn}
use Rattle.bpf_machine.specs.Machine.{State, Next}
use Rattle.bpf_machine.specs.Machine.Next.{Goes, Ends}
use Rattle.bpf_machine.specs.declared.step.Registers.{Registers}
use Rattle.bpf_machine.specs.declared.step.After.{After}
use Rattle.bpf_machine.specs.declared.step.After.TheVariants as after

-- Words that were not stored may hold anything.
pub record StandsFor (registers : Registers) (words : List ℕ) (s : State) : Type 0 where
  pub place_is : registers.place ≡ s.place
  pub a_is : registers.a ≡ s.a
  pub x_is : registers.x ≡ s.x
  pub words_are : (word value : ℕ) → s.words word ≡ Some value → slice_index words word ≡ value

-- the code goes on with the result of the step
abbrev pub GoesOn : Registers → List ℕ → Next → Type 0
GoesOn registers words (Goes s) = StandsFor registers words s
GoesOn registers words (Ends given) = ⊥

abbrev pub EndsWith : ℕ → Next → Type 0
EndsWith value (Goes s) = ⊥
EndsWith value (Ends given) = value ≡ given

-- the code's result for an instruction agrees with the machine's step
abbrev pub LeadsTo : Registers → Insn → After → List ℕ → Next → Type 0
LeadsTo r insn (after.Goes a x) words next = GoesOn (record { place = r.place + 1; a = a; x = x }) words next
LeadsTo r insn after.Holds words next =
    GoesOn (record { place = r.place + 1 + insn.jt; a = r.a; x = r.x }) words next
LeadsTo r insn after.Fails words next =
    GoesOn (record { place = r.place + 1 + insn.jf; a = r.a; x = r.x }) words next
LeadsTo r insn after.Skips words next =
    GoesOn (record { place = r.place + 1 + insn.k; a = r.a; x = r.x }) words next
LeadsTo r insn (after.Ends value) words next = EndsWith value next
