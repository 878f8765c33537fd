-- Codes of attempts, read item by item.
use Rattle.std.proofs.Common.{◌≡◌, ℕ, ◌+◌, ◌<◌, List, [], ◌∷◌, ◌++◌, ◌&&◌, length, get_or, drop, cond}
use Rattle.std.proofs.Common.{leb, Bool, true, false, append_assoc, append-nil, add-one, Result, Ok, Err}
use Rattle.std.proofs.Common.{refl, sym, ap, ◌∙◌}
use Rattle.std.specs.List.{list_all}
use Rattle.std.proofs.Math.Seq.{drop-cons}
use Rattle.json_tree.specs.Reading.{as_fault, in_order_after}
use Rattle.json_tree.proofs.Loops.{bind_ok}
use Rattle.script.specs.declared.faults.ScriptFault.TheVariants.{BadCode}
use Rattle.script.specs.declared.placed.ScriptFaultAt.{ScriptFaultAt}
use Rattle.script.specs.Faults.{fault_of_item}
use Rattle.script.specs.Reading.{code_at, code_of}

rest_is : (xs : List ℕ) (i d : ℕ) → i < length xs → drop i xs ≡ get_or xs i d ∷ drop (i + 1) xs
rest_is xs i d lt = rw (drop-cons xs i d, add-one) refl

-- one more number is a code
pub codes_more : (xs : List ℕ) (i d : ℕ) (ys : List ℕ) (y : ℕ) (all : Result (List ℕ) ScriptFaultAt)
    → i < length xs
    → in_order_after code_at ys (drop i xs) ≡ all → code_at ys (get_or xs i d) ≡ Ok y
    → in_order_after code_at (ys ++ y ∷ []) (drop (i + 1) xs) ≡ all
codes_more xs i d ys y all lt so_far here =
    let step : in_order_after code_at ys (drop i xs) ≡ in_order_after code_at (ys ++ y ∷ [])
    (drop (i + 1) xs) = rw (rest_is xs i d lt, here) refl in
    sym step ∙ so_far

-- the first number that is no code is the fault of all
pub codes_stop : (xs : List ℕ) (i d : ℕ) (ys : List ℕ) (e : ScriptFaultAt)
    (all : Result (List ℕ) ScriptFaultAt) → i < length xs
    → in_order_after code_at ys (drop i xs) ≡ all → code_at ys (get_or xs i d) ≡ Err e → all ≡ Err e
codes_stop xs i d ys e all lt so_far here =
    let step : in_order_after code_at ys (drop i xs) ≡ Err e = rw (rest_is xs i d lt, here) refl in
    sym so_far ∙ step

code_is : (small : Bool) (index n m : ℕ) → as_fault (fault_of_item index) (cond small (Ok n) (Err BadCode))
    ≡ Ok m → (small ≡ true) × (m ≡ n)
code_is true index n m h = (refl, cc)
code_is false index n m h = absurd cc

pub each_code_found : (done ns ms : List ℕ) → in_order_after code_at done ns ≡ Ok ms
    → (list_all (λ n. leb n 255) ns ≡ true) × (ms ≡ done ++ ns)
unfolding code_of
each_code_found done [] ms h =
    let same : done ≡ ms = cc in
    (refl, sym same ∙ sym (append-nil done))
each_code_found done (n ∷ ns) ms h =
    let first = bind_ok (code_at done n) _ _ h in
    let small = code_is (leb n 255) (length done) n first.0 first.1 in
    let rest = each_code_found (done ++ first.0 ∷ []) ns ms first.2 in
    (rw small.0 rest.0, rest.1 ∙ append_assoc done (first.0 ∷ []) ns ∙ ap (λ m. done ++ m ∷ ns) small.1)

-- as many codes as numbers
pub as_many : (ns ms : List ℕ) → in_order_after code_at [] ns ≡ Ok ms → length ms ≡ length ns
as_many ns ms h = ap length (each_code_found [] ns ms h).1

first_small : (small others : Bool) → (small && others) ≡ true → (small ≡ true) × (others ≡ true)
first_small true others h = (refl, h)
first_small false others h = absurd cc

pub each_code_only : (done ns : List ℕ) → list_all (λ n. leb n 255) ns ≡ true
    → in_order_after code_at done ns ≡ Ok (done ++ ns)
unfolding code_of
each_code_only done [] h = ap Ok (sym (append-nil done))
each_code_only done (n ∷ ns) h =
    let small = first_small (leb n 255) (list_all (λ m. leb m 255) ns) h in
    rw small.0 (each_code_only (done ++ n ∷ []) ns small.1 ∙ ap Ok (append_assoc done (n ∷ []) ns))
