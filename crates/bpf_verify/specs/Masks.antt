-- How the verifier keeps track of stored words: bit w of a place's mask is scratch word w. Only private
-- functions cite this; walks define what the words mean for a filter.
use Rattle.std.specs.Prelude.{ℕ, ◌+◌, ◌^◌, ◌<◌, List, slice_index, bit_and, bit_or, slice_set}
use Rattle.bpf_code.specs.declared.insn.Insn.{Insn}
use Rattle.bpf_code.specs.declared.flow.Flow.{Flow}
use Rattle.bpf_code.specs.declared.flow.Flow.TheVariants.{Returns, Jumps, Branches, Continues}
use Rattle.bpf_code.specs.declared.flow.Scratch.{Scratch}
use Rattle.bpf_code.specs.declared.flow.Scratch.TheVariants.{Loads, Stores, Untouched}

-- the mask after an instruction that does this to word k
abbrev pub stored_after : Scratch → ℕ → ℕ → ℕ
stored_after Stores k mask = bit_or mask (2 ^ k)
stored_after Loads k mask = mask
stored_after Untouched k mask = mask

-- the mask of a place narrowed to what is stored on one more way to it
abbrev pub narrowed : ℕ → ℕ → List ℕ → List ℕ
narrowed at stored masks = slice_set masks at (bit_and (slice_index masks at) stored)

-- the masks after a place, from which the filter goes by this flow, was passed
abbrev pub passed_on : Flow → Insn → ℕ → ℕ → List ℕ → List ℕ
passed_on Returns insn at stored masks = masks
passed_on Jumps insn at stored masks = narrowed (at + 1 + insn.k) stored masks
passed_on Branches insn at stored masks =
    narrowed (at + 1 + insn.jf) stored (narrowed (at + 1 + insn.jt) stored masks)
passed_on Continues insn at stored masks = narrowed (at + 1) stored masks

-- all places to which the filter may go are below this one
abbrev pub GoesBelow : Flow → Insn → ℕ → ℕ → Type 0
GoesBelow Returns insn at limit = Unit {0}
GoesBelow Jumps insn at limit = at + 1 + insn.k < limit
GoesBelow Branches insn at limit = (at + 1 + insn.jt < limit) × (at + 1 + insn.jf < limit)
GoesBelow Continues insn at limit = at + 1 < limit
