-- Walks through code, whatever the data: the jumps of linux/filter.h. Targets are whole numbers, so
-- none of them wraps.
use Rattle.std.specs.Prelude.{◌≡◌, ℕ, ◌+◌, List, [], ◌∷◌, ◌⊎◌, Some, slice_get}
use Rattle.bpf_code.specs.declared.insn.Insn.{Insn}
use Rattle.bpf_code.specs.declared.flow.Flow.{Flow}
use Rattle.bpf_code.specs.declared.flow.Flow.TheVariants.{Returns, Jumps, Branches, Continues}
use Rattle.bpf_code.specs.declared.flow.Scratch.TheVariants.{Stores}
use Rattle.bpf_code.specs.Flow.{flow_of, scratch_of}

-- from an instruction of this flow at this place the filter may go to that one
abbrev pub MayGo : Flow → Insn → ℕ → ℕ → Type 0
MayGo Returns insn from to = ⊥
MayGo Jumps insn from to = to ≡ from + 1 + insn.k
MayGo Branches insn from to = (to ≡ from + 1 + insn.jt) ⊎ (to ≡ from + 1 + insn.jf)
MayGo Continues insn from to = to ≡ from + 1

-- one place is a possible successor of the other
pub record Follows (code : List Insn) (from to : ℕ) : Type 0 where
  pub insn : Insn
  pub stands : slice_get code from ≡ Some insn
  pub goes : MayGo (flow_of insn.op) insn from to

-- a walk from place 0 that passed these places, the latest one first, and is now at this one
abbrev pub IsWalk : List Insn → List ℕ → ℕ → Type 0
IsWalk code [] at = at ≡ 0
IsWalk code (last ∷ earlier) at = IsWalk code earlier last × Follows code last at

-- the instruction at this place stores this scratch word
pub record StoresWord (code : List Insn) (word at : ℕ) : Type 0 where
  pub insn : Insn
  pub stands : slice_get code at ≡ Some insn
  pub stores : scratch_of insn.op ≡ Stores
  pub word_is : insn.k ≡ word

-- one of the places stores the word
abbrev pub IsStoredOn : List Insn → ℕ → List ℕ → Type 0
IsStoredOn code word [] = ⊥
IsStoredOn code word (last ∷ earlier) = StoresWord code word last ⊎ IsStoredOn code word earlier
