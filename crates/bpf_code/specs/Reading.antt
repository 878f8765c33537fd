-- Which texts are filter files, and what is wrong with the others. The form is this project's own: the
-- bytes of struct sock_filter, one instruction after the other.
use Rattle.std.specs.Prelude.{◌≡◌, ◌≢◌, ℕ, ◌+◌, ◌*◌, ◌<◌, ◌≤◌, ◌%◌, List, slice_index, length}
use Rattle.bpf_code.specs.Code.{code_of}
use Rattle.bpf_code.specs.declared.operation.Operation.{Operation}
use Rattle.bpf_code.specs.declared.fault.CodeFault.{CodeFault}
use Rattle.bpf_code.specs.declared.fault.CodeFault.TheVariants.{Length, TooLong, BadCode, Memory}
use Rattle.bpf_code.specs.declared.limits.TheConstants.{MAX_BYTES}

-- the code at this place of a text
abbrev pub code_at : List ℕ → ℕ → ℕ
code_at bytes at = slice_index bytes (8 * at) + 256 * slice_index bytes (8 * at + 1)

-- no operation of the table has the code at this place
abbrev pub IsUnknownAt : List ℕ → ℕ → Type 0
IsUnknownAt bytes at = (op : Operation) → code_of op ≢ code_at bytes at

-- an operation of the table has the code at this place
abbrev pub IsKnownAt : List ℕ → ℕ → Type 0
IsKnownAt bytes at = (op : Operation) × (code_of op ≡ code_at bytes at)

-- the lowest place whose code is not in the table
pub record IsFirstUnknown (bytes : List ℕ) (at : ℕ) : Type 0 where
  pub within : 8 * at < length bytes
  pub unknown : IsUnknownAt bytes at
  pub known : (earlier : ℕ) → earlier < at → IsKnownAt bytes earlier

-- the first fault of a text, in this order; running out of memory is not a fault of the text
abbrev pub HasFault : List ℕ → CodeFault → Type 0
HasFault bytes Length = length bytes % 8 ≢ 0
HasFault bytes TooLong = (length bytes % 8 ≡ 0) × (MAX_BYTES < length bytes)
HasFault bytes (BadCode at) = (length bytes % 8 ≡ 0) × (length bytes ≤ MAX_BYTES) × IsFirstUnknown bytes at
HasFault bytes Memory = ⊥
