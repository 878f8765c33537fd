-- The longest walk through code, this project's own measure of how many steps a filter may take:
-- docs/SEMANTICS.md, "Sound filters", says what a walk is.
use Rattle.std.specs.Prelude.{◌≡◌, ℕ, ◌+◌, ◌≤◌, List, length}
use Rattle.bpf_code.specs.declared.insn.Insn.{Insn}
use Rattle.bpf_verify.specs.Walks.{IsWalk}

-- How many places a walk has: those that it passed, and its current one.
abbrev pub places_of : List ℕ → ℕ
places_of before = length before + 1

-- some walk has this many places, and none has more
pub record IsLongest (code : List Insn) (places : ℕ) : Type 0 where
  pub some : (before : List ℕ) × (at : ℕ) × IsWalk code before at × (places_of before ≡ places)
  pub none_longer : (before : List ℕ) (at : ℕ) → IsWalk code before at → places_of before ≤ places
