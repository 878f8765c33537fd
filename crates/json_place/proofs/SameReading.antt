-- A reading is the same whether its faults have places or not.
use Rattle.std.proofs.Common.{◌≡◌, Result, Ok, Err, ap}

abbrev IsRead : {A E : Type 0} → A → Result A E → Type 0
IsRead x r = r ≡ Ok x

-- what is read
pub same_value : {A E F : Type 0} (x y : A) → IsRead {A = A} {E = E} y (Ok x)
    → IsRead {A = A} {E = F} y (Ok x)
same_value x y h =
    let same : x ≡ y = cc in
    ap Ok same

-- and is not refused
pub not_refused : {A E F : Type 0} (x : A) (e : E) (f : F) → IsRead {A = A} {E = E} x (Err e)
    → IsRead {A = A} {E = F} x (Err f)
not_refused x e f h = absurd cc
