-- Code has one text, and no other code has it.
use Rattle.std.proofs.Common.{◌≡◌, ℕ, suc, zero, ◌+◌, ◌*◌, ◌<◌, ◌≤◌, ◌%◌, ◌/◌, ◌^◌, ◌==◌, List, [], ◌∷◌, ◌++◌}
use Rattle.std.proofs.Common.{Option, Some, length, get_or, find, refl, sym, ap, ◌∙◌, arith, lit<}
use Rattle.std.specs.Int.{w32, to_le_bytes, from_le_bytes}
use Rattle.std.specs.List.{AllByRecursion}
use Rattle.std.proofs.lemmas.Nat.{from_le_bytes-to_le_bytes_4}
use Rattle.std.proofs.lemmas.Option.{same_Some}
use Rattle.bpf_code.specs.declared.operation.Operation.{Operation}
use Rattle.bpf_code.specs.declared.operation.Operation.TheVariants.{LoadImmediate, LoadData, LoadWord}
use Rattle.bpf_code.specs.declared.operation.Operation.TheVariants.{LoadLength, LoadXImmediate, LoadXWord}
use Rattle.bpf_code.specs.declared.operation.Operation.TheVariants.{LoadXLength, Store, StoreX, AddK, AddX}
use Rattle.bpf_code.specs.declared.operation.Operation.TheVariants.{SubK, SubX, MulK, MulX, DivK, DivX, OrK}
use Rattle.bpf_code.specs.declared.operation.Operation.TheVariants.{OrX, AndK, AndX, XorK, XorX, ShiftLeft}
use Rattle.bpf_code.specs.declared.operation.Operation.TheVariants.{ShiftRight, Negate, JumpEqualK}
use Rattle.bpf_code.specs.declared.operation.Operation.TheVariants.{JumpEqualX, JumpGreaterK, JumpGreaterX}
use Rattle.bpf_code.specs.declared.operation.Operation.TheVariants.{JumpGreaterOrEqualK, JumpGreaterOrEqualX}
use Rattle.bpf_code.specs.declared.operation.Operation.TheVariants.{JumpAnyBitK, JumpAnyBitX, Jump, ReturnK}
use Rattle.bpf_code.specs.declared.operation.Operation.TheVariants.{ReturnA, MoveToX, MoveToA}
use Rattle.bpf_code.specs.declared.insn.Insn.{Insn}
use Rattle.bpf_code.specs.declared.fault.CodeFault.{CodeFault}
use Rattle.bpf_code.specs.declared.fault.CodeFault.TheVariants.{Length, TooLong, BadCode, Memory}
use Rattle.bpf_code.specs.declared.limits.TheConstants.{MAX_BYTES}
use Rattle.bpf_code.specs.Code.{code_of, bytes_of_insn, bytes_of_code, Fits}
use Rattle.bpf_code.specs.Reading.{HasFault, IsKnownAt}
use Rattle.bpf_code.proofs.Bytes.{length-bytes_of_code}

-- the operation of a code, found among all
operation_of : ℕ → Option Operation
operation_of n = find (λ (op : Operation). code_of op == n)
    (LoadImmediate ∷ LoadData ∷ LoadWord ∷ LoadLength ∷ LoadXImmediate ∷ LoadXWord ∷ LoadXLength ∷ Store
    ∷ StoreX ∷ AddK ∷ AddX ∷ SubK ∷ SubX ∷ MulK ∷ MulX ∷ DivK ∷ DivX ∷ OrK ∷ OrX ∷ AndK ∷ AndX ∷ XorK ∷ XorX
    ∷ ShiftLeft ∷ ShiftRight ∷ Negate ∷ JumpEqualK ∷ JumpEqualX ∷ JumpGreaterK ∷ JumpGreaterX
    ∷ JumpGreaterOrEqualK ∷ JumpGreaterOrEqualX ∷ JumpAnyBitK ∷ JumpAnyBitX ∷ Jump ∷ ReturnK ∷ ReturnA
    ∷ MoveToX ∷ MoveToA ∷ [])

operation_of-code : (op : Operation) → operation_of (code_of op) ≡ Some op
unfolding operation_of
operation_of-code LoadImmediate = refl
operation_of-code LoadData = refl
operation_of-code LoadWord = refl
operation_of-code LoadLength = refl
operation_of-code LoadXImmediate = refl
operation_of-code LoadXWord = refl
operation_of-code LoadXLength = refl
operation_of-code Store = refl
operation_of-code StoreX = refl
operation_of-code AddK = refl
operation_of-code AddX = refl
operation_of-code SubK = refl
operation_of-code SubX = refl
operation_of-code MulK = refl
operation_of-code MulX = refl
operation_of-code DivK = refl
operation_of-code DivX = refl
operation_of-code OrK = refl
operation_of-code OrX = refl
operation_of-code AndK = refl
operation_of-code AndX = refl
operation_of-code XorK = refl
operation_of-code XorX = refl
operation_of-code ShiftLeft = refl
operation_of-code ShiftRight = refl
operation_of-code Negate = refl
operation_of-code JumpEqualK = refl
operation_of-code JumpEqualX = refl
operation_of-code JumpGreaterK = refl
operation_of-code JumpGreaterX = refl
operation_of-code JumpGreaterOrEqualK = refl
operation_of-code JumpGreaterOrEqualX = refl
operation_of-code JumpAnyBitK = refl
operation_of-code JumpAnyBitX = refl
operation_of-code Jump = refl
operation_of-code ReturnK = refl
operation_of-code ReturnA = refl
operation_of-code MoveToX = refl
operation_of-code MoveToA = refl

pub code_small : (op : Operation) → code_of op < 256
code_small LoadImmediate = lit< tt
code_small LoadData = lit< tt
code_small LoadWord = lit< tt
code_small LoadLength = lit< tt
code_small LoadXImmediate = lit< tt
code_small LoadXWord = lit< tt
code_small LoadXLength = lit< tt
code_small Store = lit< tt
code_small StoreX = lit< tt
code_small AddK = lit< tt
code_small AddX = lit< tt
code_small SubK = lit< tt
code_small SubX = lit< tt
code_small MulK = lit< tt
code_small MulX = lit< tt
code_small DivK = lit< tt
code_small DivX = lit< tt
code_small OrK = lit< tt
code_small OrX = lit< tt
code_small AndK = lit< tt
code_small AndX = lit< tt
code_small XorK = lit< tt
code_small XorX = lit< tt
code_small ShiftLeft = lit< tt
code_small ShiftRight = lit< tt
code_small Negate = lit< tt
code_small JumpEqualK = lit< tt
code_small JumpEqualX = lit< tt
code_small JumpGreaterK = lit< tt
code_small JumpGreaterX = lit< tt
code_small JumpGreaterOrEqualK = lit< tt
code_small JumpGreaterOrEqualX = lit< tt
code_small JumpAnyBitK = lit< tt
code_small JumpAnyBitX = lit< tt
code_small Jump = lit< tt
code_small ReturnK = lit< tt
code_small ReturnA = lit< tt
code_small MoveToX = lit< tt
code_small MoveToA = lit< tt

code_of-injective : (a b : Operation) → code_of a ≡ code_of b → a ≡ b
code_of-injective a b e = same_Some a b (sym (operation_of-code a) ∙ ap operation_of e ∙ operation_of-code b)

low_byte : (m n : ℕ) → m < 256 → n < 256 → m % 256 ≡ n % 256 → m ≡ n
low_byte m n small_m small_n e = omega arith

-- the number in four bytes
number_same : (m n : ℕ) → m < 2 ^ 32 → n < 2 ^ 32 → to_le_bytes w32 m ≡ to_le_bytes w32 n → m ≡ n
number_same m n small_m small_n e =
    sym (from_le_bytes-to_le_bytes_4 m small_m) ∙ ap (from_le_bytes w32) e
    ∙ from_le_bytes-to_le_bytes_4 n small_n

insn_of_parts : Operation → ℕ → ℕ → ℕ → Insn
insn_of_parts op jt jf k = record { op = op; jt = jt; jf = jf; k = k }

insn_same : (a b : Insn) → a.op ≡ b.op → a.jt ≡ b.jt → a.jf ≡ b.jf → a.k ≡ b.k → a ≡ b
unfolding insn_of_parts
insn_same a b op jt jf k =
    ap (λ (o : Operation). insn_of_parts o a.jt a.jf a.k) op
    ∙ ap (λ (n : ℕ). insn_of_parts b.op n a.jf a.k) jt
    ∙ ap (λ (n : ℕ). insn_of_parts b.op b.jt n a.k) jf
    ∙ ap (λ (n : ℕ). insn_of_parts b.op b.jt b.jf n) k

first_same : (a b : Insn) (s t : List ℕ) → Fits a → Fits b → bytes_of_insn a ++ s ≡ bytes_of_insn b ++ t
    → (a ≡ b) × (s ≡ t)
first_same a b s t fits_a fits_b e =
    let code : code_of a.op % 256 ≡ code_of b.op % 256 = cc in
    let jt : a.jt ≡ b.jt = cc in
    let jf : a.jf ≡ b.jf = cc in
    let k : to_le_bytes w32 a.k ≡ to_le_bytes w32 b.k = cc in
    let rest : s ≡ t = cc in (
      insn_same a b (code_of-injective a.op b.op
          (low_byte (code_of a.op) (code_of b.op) (code_small a.op) (code_small b.op) code)) jt jf
          (number_same a.k b.k fits_a.k fits_b.k k),
      rest,
    )

pub bytes_of_code-injective : (a b : List Insn) → AllByRecursion Fits a → AllByRecursion Fits b
    → bytes_of_code a ≡ bytes_of_code b → a ≡ b
bytes_of_code-injective [] [] fits_a fits_b e = refl
bytes_of_code-injective [] (y ∷ b) fits_a fits_b e = absurd (cc)
bytes_of_code-injective (x ∷ a) [] fits_a fits_b e = absurd (cc)
bytes_of_code-injective (x ∷ a) (y ∷ b) fits_a fits_b e =
    let parts = first_same x y (bytes_of_code a) (bytes_of_code b) fits_a.0 fits_b.0 e in
    let rest : a ≡ b = bytes_of_code-injective a b fits_a.1 fits_b.1 parts.1 in
    ap (λ (i : Insn). i ∷ a) parts.0 ∙ ap (λ (code : List Insn). y ∷ code) rest

-- each place of a text has a code of the table
code_split : (n : ℕ) → n < 256 → n ≡ n % 256 + 256 * (n / 256 % 256)
code_split n small = omega arith

past_insn : (insn : Insn) (rest : List ℕ) (i j : ℕ) → j ≡ suc (suc (suc (suc (suc (suc (suc (suc i)))))))
    → get_or (bytes_of_insn insn ++ rest) j 0 ≡ get_or rest i 0
past_insn insn rest i j is = ap (λ n. get_or (bytes_of_insn insn ++ rest) n 0) is

known_at : (code : List Insn) (at : ℕ) → 8 * at < length (bytes_of_code code)
    → IsKnownAt (bytes_of_code code) at
known_at [] at within = absurd (omega (arith, within))
known_at (insn ∷ code) zero within = (insn.op, code_split (code_of insn.op) (code_small insn.op))
known_at (insn ∷ code) (suc at) within =
    let long : 8 * length (insn ∷ code) ≡ 8 * length code + 8 = omega arith in
    let known = known_at code at (omega (
      arith,
      within,
      length-bytes_of_code (insn ∷ code),
      length-bytes_of_code code,
      long,
    )) in
    let low = past_insn insn (bytes_of_code code) (8 * at) (8 * suc at) (omega arith) in
    let high = past_insn insn (bytes_of_code code) (8 * at + 1) (8 * suc at + 1) (omega arith) in (
      known.0,
      known.1 ∙ ap (λ (n : ℕ). n + 256 * get_or (bytes_of_code code) (8 * at + 1) 0) (sym low)
          ∙ ap (λ (n : ℕ). get_or (bytes_of_code (insn ∷ code)) (8 * suc at) 0 + 256 * n) (sym high),
    )

pub text_has_no_fault : (code : List Insn) (fault : CodeFault) → 8 * length code ≤ MAX_BYTES
    → HasFault (bytes_of_code code) fault → ⊥
text_has_no_fault code Length short has = has (omega (arith, length-bytes_of_code code))
text_has_no_fault code TooLong short has = omega (arith, has.1, length-bytes_of_code code)
text_has_no_fault code (BadCode at) short has = let known = known_at code at has.2.within in
    has.2.unknown known.0 known.1
text_has_no_fault code Memory short has = has
