-- This project's own: code that is built from its end. A place counts the instructions after it, so what is
-- put in front moves no place. Only private functions cite this.
use Rattle.std.specs.Prelude.{◌≡◌, ℕ, ◌+◌, ◌%◌, ◌<◌, ◌≤◌, ◌==◌, nat_lt, nat_le, Bool, if◌then◌else◌}
use Rattle.std.specs.Prelude.{List, Some, slice_get, take, length, bit_and, not}
use Rattle.bpf_code.specs.declared.insn.Insn.{Insn}
use Rattle.bpf_code.specs.declared.operation.Operation.{Operation}
use Rattle.bpf_code.specs.declared.operation.Operation.TheVariants.{LoadData, AndK, JumpEqualK, JumpGreaterK}
use Rattle.bpf_code.specs.declared.operation.Operation.TheVariants.{JumpGreaterOrEqualK, JumpAnyBitK, Jump}
use Rattle.bpf_code.specs.declared.operation.Operation.TheVariants.{ReturnK}
use Rattle.bpf_code.specs.declared.limits.TheConstants.{DATA_LEN}
use Rattle.call_data.specs.declared.sys_call.SysCall.{SysCall}
use Rattle.call_data.specs.CallData.{word_at}
use Rattle.compile.specs.declared.code.TheConstants.{RECENT}

-- an instruction that leads to places after its own, and reads a word of the call's data
abbrev pub PointsInside : Operation → Insn → ℕ → Type 0
PointsInside LoadData insn at = (insn.k < DATA_LEN) × (insn.k % 4 ≡ 0) × (0 < at)
PointsInside AndK insn at = 0 < at
PointsInside JumpEqualK insn at = (insn.jt < at) × (insn.jf < at)
PointsInside JumpGreaterK insn at = (insn.jt < at) × (insn.jf < at)
PointsInside JumpGreaterOrEqualK insn at = (insn.jt < at) × (insn.jf < at)
PointsInside JumpAnyBitK insn at = (insn.jt < at) × (insn.jf < at)
PointsInside Jump insn at = insn.k < at
PointsInside ReturnK insn at = Unit {0}
PointsInside _ insn at = ⊥

-- code of only such instructions
abbrev pub IsBackward : List Insn → Type 0
IsBackward code = (at : ℕ) (insn : Insn) → slice_get code at ≡ Some insn → PointsInside insn.op insn at

-- the word of the call's data at this offset
unfoldable pub data_word : SysCall → ℕ → ℕ
data_word call offset = word_at call offset

-- the place of a branch's target
abbrev pub BranchesTo : Bool → Insn → ℕ → ℕ → Type 0
BranchesTo test insn at to = to + 1 + (if test then insn.jt else insn.jf) ≡ at

-- with a in A the instruction leads from its place to that one, with b in A
abbrev pub LeadsTo : Operation → SysCall → Insn → ℕ → ℕ → ℕ → ℕ → Type 0
LeadsTo LoadData call insn at a to b = (to + 1 ≡ at) × (b ≡ data_word call insn.k)
LeadsTo AndK call insn at a to b = (to + 1 ≡ at) × (b ≡ bit_and a insn.k)
LeadsTo JumpEqualK call insn at a to b = BranchesTo (a == insn.k) insn at to × (b ≡ a)
LeadsTo JumpGreaterK call insn at a to b = BranchesTo (nat_lt insn.k a) insn at to × (b ≡ a)
LeadsTo JumpGreaterOrEqualK call insn at a to b = BranchesTo (nat_le insn.k a) insn at to × (b ≡ a)
LeadsTo JumpAnyBitK call insn at a to b = BranchesTo (not (bit_and a insn.k == 0)) insn at to × (b ≡ a)
LeadsTo Jump call insn at a to b = (to + 1 + insn.k ≡ at) × (b ≡ a)
LeadsTo _ call insn at a to b = ⊥

-- from this place, with a in A, the code returns the value in at most this many steps
pub data Gives (code : List Insn) (call : SysCall) : ℕ → ℕ → ℕ → ℕ → Type 0 where
  ends : {at a value most : ℕ} → (insn : Insn) → slice_get code at ≡ Some insn → insn.op ≡ ReturnK
      → value ≡ insn.k → 0 < most → Gives code call at a value most
  leads : {at a value most : ℕ} → (insn : Insn) → slice_get code at ≡ Some insn → (to b left : ℕ)
      → LeadsTo insn.op call insn at a to b → left < most → Gives code call to b value left
      → Gives code call at a value most

-- the same whatever is in A
abbrev pub GivesAlways : List Insn → SysCall → ℕ → ℕ → ℕ → Type 0
GivesAlways code call at value most = (a : ℕ) → Gives code call at a value most

-- the new code returns what the old code does
abbrev pub Keeps : List Insn → List Insn → Type 0
Keeps old new = (call : SysCall) (at a value most : ℕ) → Gives old call at a value most
    → Gives new call at a value most

-- the new code begins with what the old one does
abbrev pub Extends : List Insn → List Insn → Type 0
Extends old new = (begin : List Insn) → take (length begin) old ≡ begin → take (length begin) new ≡ begin

-- more was put in front
pub record Builds (old new : List Insn) : Type 0 where
  pub keeps : Keeps old new
  pub extends : Extends old new
  pub grows : length old ≤ length new

-- the place is among the latest
abbrev pub IsRecent : List Insn → ℕ → Type 0
IsRecent code at = (at < length code) × (length code ≤ at + RECENT)

-- one instruction was put in front
pub record Puts (insn : Insn) (old new : List Insn) : Type 0 where
  pub stands : slice_get new (length old) ≡ Some insn
  pub longer : length new ≡ length old + 1
  pub keeps : Keeps old new
