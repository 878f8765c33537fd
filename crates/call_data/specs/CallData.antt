-- The data of a system call: `struct seccomp_data`, seccomp(2), on x86-64, which is little-endian.
use Rattle.std.specs.Prelude.{◌≡◌, ℕ, ◌<◌, ◌^◌, List, ◌++◌, drop, length, slice_index}
use Rattle.std.specs.Int.{w32, w64, to_le_bytes}
use Rattle.std.specs.List.{flat_map}
use Rattle.byteorder.specs.Endian.{little_number}
use Rattle.call_data.specs.declared.sys_call.SysCall.{SysCall}

-- the fields in the order of the standard, one after the other, lowest byte first
abbrev pub bytes_of_call : SysCall → List ℕ
bytes_of_call call =
    to_le_bytes w32 call.nr ++ (to_le_bytes w32 call.arch
    ++ (to_le_bytes w64 call.ip ++ flat_map (to_le_bytes w64) call.args))

-- the number in the four bytes at `offset`, lowest byte first
abbrev pub word_in : List ℕ → ℕ → ℕ
word_in bytes offset = little_number 4 (drop offset bytes)

-- the word of a call's data at `offset`
abbrev pub word_at : SysCall → ℕ → ℕ
word_at call offset = word_in (bytes_of_call call) offset

-- a call as a machine can make it: six arguments, and each number fits its field
pub record IsCall (call : SysCall) : Type 0 where
  pub nr : call.nr < 2 ^ 32
  pub arch : call.arch < 2 ^ 32
  pub ip : call.ip < 2 ^ 64
  pub six : length call.args ≡ 6
  pub args : (i : ℕ) → slice_index call.args i < 2 ^ 64
