-- Where a filter goes after an instruction, and which scratch words it touches: linux/filter.h.
use Rattle.bpf_code.specs.declared.operation.Operation.{Operation}
use Rattle.bpf_code.specs.declared.operation.Operation.TheVariants.{LoadWord, LoadXWord, Store, StoreX}
use Rattle.bpf_code.specs.declared.operation.Operation.TheVariants.{JumpEqualK, JumpEqualX, JumpGreaterK}
use Rattle.bpf_code.specs.declared.operation.Operation.TheVariants.{JumpGreaterX, JumpGreaterOrEqualK}
use Rattle.bpf_code.specs.declared.operation.Operation.TheVariants.{JumpGreaterOrEqualX, JumpAnyBitK}
use Rattle.bpf_code.specs.declared.operation.Operation.TheVariants.{JumpAnyBitX, Jump, ReturnK, ReturnA}
use Rattle.bpf_code.specs.declared.flow.Flow.{Flow}
use Rattle.bpf_code.specs.declared.flow.Flow.TheVariants.{Returns, Jumps, Branches, Continues}
use Rattle.bpf_code.specs.declared.flow.Scratch.{Scratch}
use Rattle.bpf_code.specs.declared.flow.Scratch.TheVariants.{Loads, Stores, Untouched}

-- where the filter goes
abbrev pub flow_of : Operation → Flow
flow_of ReturnK = Returns
flow_of ReturnA = Returns
flow_of Jump = Jumps
flow_of JumpEqualK = Branches
flow_of JumpEqualX = Branches
flow_of JumpGreaterK = Branches
flow_of JumpGreaterX = Branches
flow_of JumpGreaterOrEqualK = Branches
flow_of JumpGreaterOrEqualX = Branches
flow_of JumpAnyBitK = Branches
flow_of JumpAnyBitX = Branches
flow_of _ = Continues

-- what the operation does to scratch word k
abbrev pub scratch_of : Operation → Scratch
scratch_of LoadWord = Loads
scratch_of LoadXWord = Loads
scratch_of Store = Stores
scratch_of StoreX = Stores
scratch_of _ = Untouched
