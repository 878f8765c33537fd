-- The call that 64 bytes spell: its bytes are those that it was read from.
use Rattle.std.proofs.Common.{◌≡◌, ℕ, suc, ◌+◌, ◌*◌, ◌<◌, ◌≤◌, List, [], ◌∷◌, ◌++◌, length, take, drop}
use Rattle.std.proofs.Common.{get_or, sym, ap, ◌∙◌, arith, length-drop}
use Rattle.std.proofs.lemmas.List.{take-append-drop, drop-drop, get_or-drop, length-take-le, nil_from_length}
use Rattle.std.proofs.lemmas.Nat.{le_bytes_4, le_bytes_8}
use Rattle.std.proofs.lemmas.Grind.{common_steps}
use Rattle.std.specs.Int.{w32, w64, to_le_bytes}
use Rattle.std.specs.List.{flat_map}
use Rattle.byteorder.specs.Endian.{little_number, IsRead}
use Rattle.byteorder.specs.Numbers.{little_from-take}
use Rattle.call_data.specs.CallData.{bytes_of_call}
use Rattle.call_data.specs.declared.sys_call.SysCall.{SysCall}

-- every item is a byte
abbrev pub AreBytes : List ℕ → Type 0
AreBytes bytes = (i : ℕ) → get_or bytes i 0 < 256

in-take : (bytes : List ℕ) (n : ℕ) → AreBytes bytes → AreBytes (take n bytes)
in-take bytes n fit i = grind (arith, common_steps, fit i)

in-drop : (bytes : List ℕ) (n : ℕ) → AreBytes bytes → AreBytes (drop n bytes)
in-drop bytes n fit i = rw get_or-drop (fit (n + i))

-- the number in four bytes, and in eight, written again
four : (bytes : List ℕ) (n : ℕ) → 4 ≤ length bytes → AreBytes bytes → n ≡ little_number 4 (take 4 bytes)
    → to_le_bytes w32 n ++ drop 4 bytes ≡ bytes
four bytes n long fit e =
    ap (λ front. front ++ drop 4 bytes) (le_bytes_4 (take 4 bytes) n (length-take-le 4 bytes long)
    (in-take bytes 4 fit) (omega (arith, e)))
    ∙ take-append-drop 4 bytes

eight : (bytes : List ℕ) (n : ℕ) → 8 ≤ length bytes → AreBytes bytes → n ≡ little_number 8 (take 8 bytes)
    → to_le_bytes w64 n ++ drop 8 bytes ≡ bytes
eight bytes n long fit e =
    ap (λ front. front ++ drop 8 bytes) (le_bytes_8 (take 8 bytes) n (length-take-le 8 bytes long)
    (in-take bytes 8 fit) (omega (arith, e)))
    ∙ take-append-drop 8 bytes

-- numbers of eight bytes each, written again
numbers : (words bytes : List ℕ) → length bytes ≡ 8 * length words → AreBytes bytes
    → IsRead little_number 8 bytes words → flat_map (to_le_bytes w64) words ≡ bytes
numbers [] bytes long fit read = sym (nil_from_length bytes (omega arith))
numbers (word ∷ words) bytes long fit read =
    let here : word ≡ little_number 8 (take 8 bytes) = read 0 (omega arith)
    ∙ sym (little_from-take 0 8 8 bytes (omega arith)) in
    let later : IsRead little_number 8 (drop 8 bytes) words =
    λ k below. read (suc k) (omega arith) ∙ ap (little_number 8) (ap (λ n. drop n bytes) (omega arith)
    ∙ sym (drop-drop (8 * k) 8 bytes)) in
    ap (λ back. to_le_bytes w64 word ++ back)
    (numbers words (drop 8 bytes) (omega (arith, length-drop 8 bytes)) (in-drop bytes 8 fit) later)
    ∙ eight bytes word (omega arith) fit here

pub bytes_of_call-read : (bytes : List ℕ) (call : SysCall) → length bytes ≡ 64 → AreBytes bytes
    → length call.args ≡ 6
    → call.nr ≡ little_number 4 (take 4 bytes) → call.arch ≡ little_number 4 (take 4 (drop 4 bytes))
    → call.ip ≡ little_number 8 (take 8 (drop 8 bytes))
    → IsRead little_number 8 (drop 16 bytes) call.args → bytes_of_call call ≡ bytes
bytes_of_call-read bytes call long fit six nr arch ip args =
    let at_four : drop 4 (drop 4 bytes) ≡ drop 8 bytes = drop-drop 4 4 bytes in
    let at_eight : drop 8 (drop 8 bytes) ≡ drop 16 bytes = drop-drop 8 8 bytes in
    let arguments : flat_map (to_le_bytes w64) call.args ≡ drop 16 bytes =
    numbers call.args (drop 16 bytes) (omega (arith, length-drop 16 bytes)) (in-drop bytes 16 fit) args in
    let from_eight : to_le_bytes w64 call.ip ++ drop 8 (drop 8 bytes) ≡ drop 8 bytes =
    eight (drop 8 bytes) call.ip (omega (arith, length-drop 8 bytes)) (in-drop bytes 8 fit) ip in
    let from_four : to_le_bytes w32 call.arch ++ drop 4 (drop 4 bytes) ≡ drop 4 bytes =
    four (drop 4 bytes) call.arch (omega (arith, length-drop 4 bytes)) (in-drop bytes 4 fit) arch in
    ap (λ back. to_le_bytes w32 call.nr ++ (to_le_bytes w32 call.arch ++ (to_le_bytes w64 call.ip ++ back)))
    (arguments ∙ sym at_eight)
    ∙ ap (λ back. to_le_bytes w32 call.nr ++ (to_le_bytes w32 call.arch ++ back)) (from_eight ∙ sym at_four)
    ∙ ap (λ back. to_le_bytes w32 call.nr ++ back) from_four
    ∙ four bytes call.nr (omega arith) fit nr
