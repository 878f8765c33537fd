-- How these are found: a mark for each place at which A may not be the call's number. Only private functions
-- cite this.
use Rattle.std.specs.Prelude.{◌≡◌, ℕ, ◌+◌, ◌<◌, ◌||◌, ◌==◌, not, ◌&&◌, if◌then◌else◌, Bool, true, false, List}
use Rattle.std.specs.Prelude.{[], ◌∷◌, slice_index_or, slice_set}
use Rattle.bpf_code.specs.declared.flow.Flow.{Flow}
use Rattle.bpf_code.specs.declared.flow.Flow.TheVariants.{Returns, Jumps, Branches, Continues}
use Rattle.bpf_code.specs.declared.insn.Insn.{Insn}
use Rattle.bpf_code.specs.declared.operation.Operation.{Operation}
use Rattle.bpf_code.specs.declared.operation.Operation.TheVariants.{LoadData}
use Rattle.bpf_code.specs.Flow.{flow_of}
use Rattle.bpf_verify.specs.Walks.{IsWalk}
use Rattle.call_names.specs.Tests.{HoldsNumber, IsReached, compares_constant, writes_a}

-- whether A may not be the call's number after an instruction
abbrev pub other_by : Operation → ℕ → Bool → Bool
other_by LoadData k other = not (k == 0)
other_by op k other = writes_a op || other

abbrev pub other_after : Insn → Bool → Bool
other_after insn other = other_by insn.op insn.k other

-- the marks with those of the places that may come next
abbrev pub marked_on : Flow → Insn → ℕ → List Bool → List Bool
marked_on Returns insn at others = others
marked_on Jumps insn at others = slice_set others (at + 1 + insn.k) true
marked_on Branches insn at others = slice_set (slice_set others (at + 1 + insn.jt) true)
    (at + 1 + insn.jf) true
marked_on Continues insn at others = slice_set others (at + 1) true

-- the marks after the instruction at this place
abbrev pub passed : Insn → ℕ → List Bool → List Bool
passed insn at others = if other_after insn (slice_index_or others at true)
    then marked_on (flow_of insn.op) insn at others else others

-- whether an instruction is reported to compare the number
abbrev pub is_test : Insn → Bool → Bool → Bool
is_test insn reached other = reached && compares_constant insn.op && not other

-- the latest place of the walk is below this one
abbrev pub IsBelow : ℕ → List ℕ → Type 0
IsBelow limit [] = Unit {0}
IsBelow limit (last ∷ earlier) = last < limit

-- A is the call's number at each place without a mark, on walks whose latest place is below the limit
abbrev pub Knows : List Insn → List Bool → ℕ → Type 0
Knows code others limit =
    (to : ℕ) (before : List ℕ) → IsBelow limit before → IsWalk code before to
    → slice_index_or others to true ≡ false → HoldsNumber code before

-- a walk reaches each place that has a mark
abbrev pub Reaches : List Insn → List Bool → Type 0
Reaches code reached = (at : ℕ) → slice_index_or reached at false ≡ true → IsReached code at
