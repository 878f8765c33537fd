-- How the longest walk is found: for each place how many places the longest way on from it has, the
-- place itself included. Only private functions cite this.
use Rattle.std.specs.Prelude.{ℕ, ◌+◌, List, slice_index, max}
use Rattle.bpf_code.specs.declared.insn.Insn.{Insn}
use Rattle.bpf_code.specs.declared.flow.Flow.{Flow}
use Rattle.bpf_code.specs.declared.flow.Flow.TheVariants.{Returns, Jumps, Branches, Continues}

-- the most places of the ways on from the places that may come next
abbrev pub most_ahead : Flow → Insn → ℕ → List ℕ → ℕ
most_ahead Returns insn at ahead = 0
most_ahead Jumps insn at ahead = slice_index ahead (at + 1 + insn.k)
most_ahead Branches insn at ahead = max (slice_index ahead (at + 1 + insn.jt))
    (slice_index ahead (at + 1 + insn.jf))
most_ahead Continues insn at ahead = slice_index ahead (at + 1)
