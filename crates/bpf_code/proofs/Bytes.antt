-- Eight bytes and the instruction that they spell; a text and its instructions.
use Rattle.std.proofs.Common.{◌≡◌, ℕ, ◌+◌, ◌-◌, ◌*◌, ◌<◌, List, [], ◌∷◌, ◌++◌, length, take, drop, get_or}
use Rattle.std.proofs.Common.{refl, sym, ap, ◌∙◌, arith, append_assoc, add-one, length-drop}
use Rattle.std.proofs.Math.Seq.{drop-cons, take-add, take-suc}
use Rattle.std.proofs.lemmas.List.{take-append-drop, take_more, get_or-take, get_or-drop, length-take-le}
use Rattle.std.proofs.lemmas.Nat.{le_bytes_2, le_bytes_4}
use Rattle.std.proofs.lemmas.Grind.{common_steps}
use Rattle.std.specs.List.{AllByRecursion}
use Rattle.std.specs.Int.{w16, w32, to_le_bytes}
use Rattle.byteorder.specs.Endian.{little_number}
use Rattle.bpf_code.specs.Code.{code_of, bytes_of_insn, bytes_of_code, Spells, Fits}
use Rattle.bpf_code.specs.Reading.{code_at}
use Rattle.bpf_code.specs.declared.insn.Insn.{Insn}

-- every item is a byte
abbrev pub AreBytes : List ℕ → Type 0
AreBytes bytes = (i : ℕ) → get_or bytes i 0 < 256

bytes_in-take : (bytes : List ℕ) (n i : ℕ) → AreBytes bytes → get_or (take n bytes) i 0 < 256
bytes_in-take bytes n i fit = grind (arith, common_steps, fit i)

bytes_in-drop : (bytes : List ℕ) (n i : ℕ) → AreBytes bytes → get_or (drop n bytes) i 0 < 256
bytes_in-drop bytes n i fit = rw get_or-drop (fit (n + i))

-- an instruction that eight bytes spell has these bytes
pub bytes_of_insn-made : (insn : Insn) (bytes : List ℕ) → length bytes ≡ 8 → AreBytes bytes
    → Spells insn (little_number 2 (take 2 bytes)) (get_or bytes 2 0) (get_or bytes 3 0)
    (little_number 4 (drop 4 bytes)) → bytes ≡ bytes_of_insn insn
bytes_of_insn-made insn bytes long fit parts =
    let front : List ℕ = take 2 bytes in
    let back : List ℕ = drop 4 bytes in
    let front_fits : AreBytes front = λ i. bytes_in-take bytes 2 i fit in
    let back_fits : AreBytes back = λ i. bytes_in-drop bytes 4 i fit in
    let code : to_le_bytes w16 (code_of insn.op) ≡ front =
    le_bytes_2 front (code_of insn.op) (length-take-le 2 bytes (omega arith)) front_fits
    (omega (arith, parts.0)) in
    let k : to_le_bytes w32 insn.k ≡ back =
    le_bytes_4 back insn.k (omega (arith, length-drop 4 bytes)) back_fits (omega (arith, parts.3)) in
    let middle : drop 2 bytes ≡ get_or bytes 2 0 ∷ get_or bytes 3 0 ∷ back = drop-cons bytes 2 0 (omega arith)
    ∙ ap (λ rest. get_or bytes 2 0 ∷ rest) (drop-cons bytes 3 0 (omega arith)) in
    sym (take-append-drop 2 bytes)
    ∙ ap (λ rest. front ++ rest) middle
    ∙ ap (λ (p : List ℕ). p ++ get_or bytes 2 0 ∷ get_or bytes 3 0 ∷ back) (sym code)
    ∙ ap (λ (q : List ℕ). to_le_bytes w16 (code_of insn.op) ++ get_or bytes 2 0 ∷ get_or bytes 3 0 ∷ q)
    (sym k)
    ∙ ap (λ (n : ℕ). to_le_bytes w16 (code_of insn.op) ++ n ∷ get_or bytes 3 0 ∷ to_le_bytes w32 insn.k)
    (sym parts.1)
    ∙ ap (λ (n : ℕ). to_le_bytes w16 (code_of insn.op) ++ insn.jt ∷ n ∷ to_le_bytes w32 insn.k) (sym parts.2)

pub bytes_of_code-push : (code : List Insn) (insn : Insn)
    → bytes_of_code (code ++ insn ∷ []) ≡ bytes_of_code code ++ bytes_of_insn insn
bytes_of_code-push [] insn = refl
bytes_of_code-push (first ∷ code) insn =
    ap (λ rest. bytes_of_insn first ++ rest) (bytes_of_code-push code insn)
    ∙ sym (append_assoc (bytes_of_insn first) (bytes_of_code code) (bytes_of_insn insn))

-- one more instruction
pub text_more : (bytes : List ℕ) (at : ℕ) (code : List Insn) (insn : Insn)
    → take (8 * at) bytes ≡ bytes_of_code code → take (8 * at + 8 - 8 * at) (drop (8 * at) bytes)
    ≡ bytes_of_insn insn → take (8 * (at + 1)) bytes ≡ bytes_of_code (code ++ insn ∷ [])
text_more bytes at code insn so_far here =
    let next : 8 * (at + 1) ≡ 8 * at + 8 = omega arith in
    let count : 8 * at + 8 - 8 * at ≡ 8 = omega arith in
    let slice : take 8 (drop (8 * at) bytes) ≡ bytes_of_insn insn =
    ap (λ n. take n (drop (8 * at) bytes)) (sym count) ∙ here in
    ap (λ n. take n bytes) next ∙ take-add (8 * at) 8 bytes
    ∙ ap (λ front. front ++ take 8 (drop (8 * at) bytes)) so_far
    ∙ ap (λ back. bytes_of_code code ++ back) slice ∙ sym (bytes_of_code-push code insn)

byte_in_slice : (bytes : List ℕ) (start i j : ℕ) → i < 8 → start + i ≡ j
    → get_or (take (start + 8 - start) (drop start bytes)) i 0 ≡ get_or bytes j 0
byte_in_slice bytes start i j below place =
    get_or-take (start + 8 - start) (drop start bytes) i 0 (omega arith) ∙ get_or-drop start bytes i 0
    ∙ ap (λ n. get_or bytes n 0) place

-- the code in a slice of eight bytes
pub code_at-slice : (bytes : List ℕ) (at : ℕ) → code_at (take (8 * at + 8 - 8 * at) (drop (8 * at) bytes)) 0
    ≡ code_at bytes at
code_at-slice bytes at =
    rw (
      byte_in_slice bytes (8 * at) 0 (8 * at) (omega arith) (omega arith),
      byte_in_slice bytes (8 * at) 1 (8 * at + 1) (omega arith) (omega arith),
    ) refl

pub length-bytes_of_code : (code : List Insn) → length (bytes_of_code code) ≡ 8 * length code
length-bytes_of_code [] = refl
length-bytes_of_code (insn ∷ code) = omega (arith, length-bytes_of_code code)

-- one more instruction's bytes
pub written_more : (code : List Insn) (i : ℕ) (d : Insn) (bytes piece new : List ℕ) → i < length code
    → bytes ≡ bytes_of_code (take i code)
    → piece ≡ bytes_of_insn (get_or code i d) → new ≡ bytes ++ piece → new ≡ bytes_of_code (take (i + 1) code)
written_more code i d bytes piece new below so_far here appended =
    let step : bytes_of_code (take (i + 1) code) ≡ bytes_of_code (take i code)
    ++ bytes_of_insn (get_or code i d) =
    ap (λ n. bytes_of_code (take n code)) (add-one i) ∙ ap bytes_of_code (take-suc code i d below)
    ∙ bytes_of_code-push (take i code) (get_or code i d) in
    appended ∙ ap (λ (front : List ℕ). front ++ piece) so_far
    ∙ ap (λ (back : List ℕ). bytes_of_code (take i code) ++ back) here ∙ sym step

-- one more instruction whose numbers fit
pub fits_more : (code : List Insn) (insn : Insn) → AllByRecursion Fits code → Fits insn
    → AllByRecursion Fits (code ++ insn ∷ [])
fits_more [] insn so_far here = (here, tt)
fits_more (first ∷ code) insn so_far here = (so_far.0, fits_more code insn so_far.1 here)

pub fits_further : (code : List Insn) (at : ℕ) (d : Insn) → at < length code
    → AllByRecursion Fits (take at code) → Fits (get_or code at d) → AllByRecursion Fits (take (at + 1) code)
fits_further code at d within so_far here =
    rw (take_more code at d within) (fits_more (take at code) (get_or code at d) so_far here)
