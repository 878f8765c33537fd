-- A text has at most one fault.
use Rattle.std.proofs.Common.{◌≡◌, ℕ, ◌*◌, ◌<◌, ◌≤◌, ◌%◌, List, length, refl, ap, arith}
use Rattle.bpf_code.specs.Reading.{HasFault, IsFirstUnknown, IsKnownAt, IsUnknownAt}
use Rattle.bpf_code.specs.declared.fault.CodeFault.{CodeFault}
use Rattle.bpf_code.specs.declared.fault.CodeFault.TheVariants.{Length, TooLong, BadCode, Memory}
use Rattle.bpf_code.specs.declared.limits.TheConstants.{MAX_BYTES}

not_both : (bytes : List ℕ) (at : ℕ) → IsUnknownAt bytes at → IsKnownAt bytes at → ⊥
not_both bytes at unknown known = unknown known.0 known.1

not_later : (bytes : List ℕ) (a b : ℕ) → IsFirstUnknown bytes a → IsFirstUnknown bytes b → a < b → ⊥
not_later bytes a b first second below = not_both bytes a first.unknown (second.known a below)

pub IsFirstUnknown-unique : (bytes : List ℕ) (a b : ℕ) → IsFirstUnknown bytes a → IsFirstUnknown bytes b
    → a ≡ b
IsFirstUnknown-unique bytes a b first second =
    omega (arith, not_later bytes a b first second, not_later bytes b a second first)

pub HasFault-unique : (bytes : List ℕ) (a b : CodeFault) → HasFault bytes a → HasFault bytes b → a ≡ b
HasFault-unique bytes Length Length one two = refl
HasFault-unique bytes Length TooLong one two = absurd (one two.0)
HasFault-unique bytes Length (BadCode at) one two = absurd (one two.0)
HasFault-unique bytes TooLong Length one two = absurd (two one.0)
HasFault-unique bytes TooLong TooLong one two = refl
HasFault-unique bytes TooLong (BadCode at) one two = absurd (omega (arith, one.1, two.1))
HasFault-unique bytes (BadCode at) Length one two = absurd (two one.0)
HasFault-unique bytes (BadCode at) TooLong one two = absurd (omega (arith, one.1, two.1))
HasFault-unique bytes (BadCode a) (BadCode b) one two =
    ap BadCode (IsFirstUnknown-unique bytes a b one.2 two.2)
HasFault-unique bytes Memory b one two = absurd one
HasFault-unique bytes a Memory one two = absurd two

pub no_fault : (bytes : List ℕ) (fault : CodeFault) → length bytes % 8 ≡ 0 → length bytes ≤ MAX_BYTES
    → ((at : ℕ) → 8 * at < length bytes → IsKnownAt bytes at) → HasFault bytes fault → ⊥
no_fault bytes Length whole short known has = has whole
no_fault bytes TooLong whole short known has = omega (arith, has.1)
no_fault bytes (BadCode at) whole short known has = not_both bytes at has.2.unknown (known at has.2.within)
no_fault bytes Memory whole short known has = has
