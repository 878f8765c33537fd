use Rattle.std.proofs.Common.{◌≡◌, ℕ, zero, suc, ◌+◌, ◌*◌, ◌<◌, List, [], ◌∷◌, ◌++◌, length, drop}
use Rattle.std.proofs.Common.{slice_index, refl, ap, ◌∙◌, arith}
use Rattle.std.proofs.Math.Seq.{drop-append-add}
use Rattle.std.specs.Int.{w32, w64, to_le_bytes}
use Rattle.std.specs.List.{flat_map}
use Rattle.byteorder.specs.Endian.{little_number}
use Rattle.call_data.specs.declared.sys_call.SysCall.{SysCall}
use Rattle.call_data.specs.CallData.{bytes_of_call}
use Rattle.call_data.proofs.words.words_of_fields.Goals as goal

-- eight bytes for each argument
length-arguments : (xs : List ℕ) → length (flat_map (to_le_bytes w64) xs) ≡ 8 * length xs
length-arguments [] = refl
length-arguments (x ∷ xs) = omega (arith, length-arguments xs)

-- an argument's bytes follow those of the arguments before it
from_argument : (xs : List ℕ) (i k : ℕ) → i < length xs
    → drop (8 * i + k) (flat_map (to_le_bytes w64) xs)
    ≡ drop k (to_le_bytes w64 (slice_index xs i) ++ flat_map (to_le_bytes w64) (drop (suc i) xs))
from_argument [] i k h = absurd (omega arith)
from_argument (x ∷ xs) zero k h = let e : 8 * 0 + k ≡ k = omega arith in rw e refl
from_argument (x ∷ xs) (suc i) k h =
    let e : 8 * suc i + k ≡ 8 + (8 * i + k) = omega arith in
    rw e (drop-append-add (to_le_bytes w64 x) (flat_map (to_le_bytes w64) xs) (8 * i + k)
    ∙ from_argument xs i k (omega arith))

-- the arguments follow the 16 bytes of the other fields
at_argument : (call : SysCall) (i k n : ℕ) → n ≡ 16 + (8 * i + k) → i < length call.args
    → drop n (bytes_of_call call) ≡ drop k
    (to_le_bytes w64 (slice_index call.args i) ++ flat_map (to_le_bytes w64) (drop (suc i) call.args))
at_argument call i k n e h =
    rw e (drop-append-add (to_le_bytes w32 call.nr ++ (to_le_bytes w32 call.arch ++ to_le_bytes w64 call.ip))
    (flat_map (to_le_bytes w64) call.args) (8 * i + k) ∙ from_argument call.args i k h)

pub returns-clause-whole : goal.returns-clause-whole
returns-clause-whole c call six = omega (arith, length-arguments call.args)

pub returns-clause-args_low : goal.returns-clause-args_low
returns-clause-args_low c call i h =
    ap (little_number 4) (at_argument call i 0 (16 + 8 * i) (omega arith) h) ∙ omega arith

pub returns-clause-args_high : goal.returns-clause-args_high
returns-clause-args_high c call i h fits =
    ap (little_number 4) (at_argument call i 4 (20 + 8 * i) (omega arith) h) ∙ omega arith
