-- What is in A before a branch.
use Rattle.compile.proofs.Common.{◌≡◌, ◌≢◌, ℕ, ◌+◌, ◌<◌, List, sym, ap, subst, ◌∙◌, arith, bit_and, Insn}
use Rattle.compile.proofs.Common.{SysCall, Gives, data_word, asks, atom_holds, seen, shown, GivesWith, told}
use Rattle.compile.proofs.Common.{Atom, Probe, WHOLE, View}
use Rattle.bpf_code.specs.declared.limits.TheConstants.{DATA_LEN}
use Rattle.compile.specs.Ways.{Covers, HasView, IsProbe}
use Rattle.compile.proofs.Bits.{seen_masked, seen_whole}

-- the view in A is the one that is needed
pub held : (base view : View) (code : List Insn) (call : SysCall) (at value most : ℕ) → base.offset < DATA_LEN
    → view ≡ base → Gives code call at (shown base call) value most
    → GivesWith view code call at value (most + 0)
held base view code call at value most known same gives a has =
    let P : View → Type 0 = λ v. HasView v call a in
    let here : a ≡ shown base call = subst P same has known in
    let Q : ℕ → Type 0 = λ x. Gives code call at x value (most + 0) in
    let none : most ≡ most + 0 = omega arith in
    let R : ℕ → Type 0 = λ n. Gives code call at (shown base call) value n in
    subst Q (sym here) (subst R none gives)

-- a whole word is what is loaded
pub word_of : (base : View) (call : SysCall) → base.mask ≡ WHOLE
    → shown base call ≡ data_word call base.offset
word_of base call whole = seen_whole base.mask (data_word call base.offset) whole

-- a masked word is what is loaded, under the mask
pub masked_of : (base : View) (call : SysCall) → base.mask ≢ WHOLE
    → shown base call ≡ bit_and (data_word call base.offset) base.mask
masked_of base call masked = seen_masked base.mask (data_word call base.offset) masked

-- and so is the view that was in A before, if it covers that
pub part_of : (base view : View) (call : SysCall) (a : ℕ) → base.offset < DATA_LEN → base.mask ≢ WHOLE
    → Covers view base → HasView view call a → shown base call ≡ bit_and a base.mask
part_of base view call a known masked covers has =
    let here : a ≡ shown view call = has (omega (arith, known, covers.same)) in
    ap (λ o. seen base.mask (data_word call o)) covers.same
    ∙ sym (covers.sees (data_word call view.offset))
    ∙ ap (λ n. seen base.mask n) (sym here)
    ∙ seen_masked base.mask a masked

pub told_is : (atom : Atom) (probe : Probe) (call : SysCall) → IsProbe atom probe
    → told probe call ≡ atom_holds atom call
told_is atom probe call is =
    is.tells (data_word call probe.base.offset)
    ∙ ap (λ o. asks atom.ask (seen atom.view.mask (data_word call o))) is.same
