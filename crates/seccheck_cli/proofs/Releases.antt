-- A text may be cut behind an ASCII character: UTF-8, RFC 3629.
use Rattle.std.proofs.Common.{◌≡◌, ℕ, suc, zero, ◌+◌, ◌-◌, ◌<◌, ◌≤◌, List, length, slice_index, arith, subst}
use Rattle.std.specs.Str.{IsUtf8, IsCharBoundary}
use Rattle.std.proofs.lemmas.Str.{IsCharBoundary-after_ascii, IsCharBoundary-start}

pub is_boundary : (bs : List ℕ) (i : ℕ) → IsUtf8 bs → i ≤ length bs → slice_index bs (i - 1) < 128
    → IsCharBoundary bs i
is_boundary bs zero u le lt = IsCharBoundary-start bs u
is_boundary bs (suc i) u le lt =
    let before : suc i - 1 ≡ i = omega arith in
    let next : i + 1 ≡ suc i = omega arith in
    subst (IsCharBoundary bs) next (IsCharBoundary-after_ascii bs i u (omega arith)
    (subst (λ j. slice_index bs j < 128) before lt))
