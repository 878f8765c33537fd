-- Putting an instruction in front of code that is built from its end.
use Rattle.compile.proofs.Common.{◌≡◌, ℕ, zero, suc, ◌+◌, ◌-◌, ◌<◌, ◌≤◌, List, [], ◌∷◌, ◌++◌, ◌⊎◌, Some}
use Rattle.compile.proofs.Common.{length, slice_get, refl, sym, ap, ◌∙◌, arith, inl, inr, subst, Result, Ok}
use Rattle.compile.proofs.Common.{Err, IfOk, OnOk, Bool, true, false, cond, Insn, LoadData, ReturnK}
use Rattle.compile.proofs.Common.{Operation, AllocError, SysCall, LeadsTo, Gives, Keeps, IsBackward}
use Rattle.compile.proofs.Common.{PointsInside, data_word, holds_of, ends, leads}
use Rattle.std.proofs.lemmas.Option.{same_Some}
use Rattle.std.proofs.lemmas.List.{take-append-le, length-take}
use Rattle.std.proofs.Math.Nat.{min-le_right}
use Rattle.compile.specs.Backward.{Builds, Extends, Puts, BranchesTo}
use Rattle.compile.specs.Tests.{operation_of}
use Rattle.compile.specs.declared.code.Test.{Test}
use Rattle.compile.specs.declared.code.Test.TheVariants.{Equal, GreaterOrEqual, AnyBit}

-- each instruction of the old code is in the new code at the same place
pub record StandsStill (old new : List Insn) : Type 0 where
  pub still : (at : ℕ) (insn : Insn) → slice_get old at ≡ Some insn → slice_get new at ≡ Some insn

pub gives_still : (old new : List Insn) → StandsStill old new → Keeps old new
gives_still old new same call at a value most (ends insn stands op is some) =
    ends insn (same.still at insn stands) op is some
gives_still old new same call at a value most (leads insn stands to b left to_is less on) =
    leads insn (same.still at insn stands) to b left to_is less
    (gives_still old new same call to b value left on)

slice_get_front : (xs : List Insn) (y : Insn) (at : ℕ) (x : Insn) → slice_get xs at ≡ Some x
    → slice_get (xs ++ y ∷ []) at ≡ Some x
slice_get_front [] y at x e = absurd (cc)
slice_get_front (z ∷ xs) y zero x e = e
slice_get_front (z ∷ xs) y (suc at) x e = slice_get_front xs y at x e

slice_get_seam : (xs : List Insn) (y : Insn) → slice_get (xs ++ y ∷ []) (length xs) ≡ Some y
slice_get_seam [] y = refl
slice_get_seam (z ∷ xs) y = slice_get_seam xs y

length_seam : (xs : List Insn) (y : Insn) → length (xs ++ y ∷ []) ≡ length xs + 1
length_seam [] y = refl
length_seam (z ∷ xs) y = omega (arith, length_seam xs y)

pub puts_pushed : (old : List Insn) (insn : Insn) → Puts insn old (old ++ insn ∷ [])
puts_pushed old insn = record {
  stands = slice_get_seam old insn;
  longer = length_seam old insn;
  keeps = gives_still old (old ++ insn ∷ [])
      (record { still = λ at other stands. slice_get_front old insn at other stands });
}

extends_pushed : (old : List Insn) (insn : Insn) → Extends old (old ++ insn ∷ [])
extends_pushed old insn begin is =
    let inside : length begin ≤ length old = omega (
      arith,
      ap length is,
      length-take
          (length begin) old,
      min-le_right (length begin) (length old),
    ) in
    take-append-le (length begin) old (insn ∷ []) inside ∙ is

pub builds_pushed : (old : List Insn) (insn : Insn) → Builds old (old ++ insn ∷ [])
builds_pushed old insn =
    let puts = puts_pushed old insn in
    record { keeps = puts.keeps; extends = extends_pushed old insn; grows = omega (arith, puts.longer) }

-- the instructions of code with one more in front
stands_pushed : (old : List Insn) (insn : Insn) (at : ℕ) (other : Insn)
    → slice_get (old ++ insn ∷ []) at ≡ Some other
    → (slice_get old at ≡ Some other) ⊎ ((at ≡ length old) × (insn ≡ other))
stands_pushed [] insn zero other e = inr (refl, same_Some insn other e)
stands_pushed [] insn (suc at) other e = absurd (cc)
stands_pushed (z ∷ old) insn zero other e = inl e
stands_pushed (z ∷ old) insn (suc at) other e = elim (stands_pushed old insn at other e) [
  | inl before ↦ inl before
  | inr here ↦ inr (omega (arith, here.0), here.1)
]

pub backward_pushed : (old : List Insn) (insn : Insn) → IsBackward old
    → PointsInside insn.op insn (length old) → IsBackward (old ++ insn ∷ [])
backward_pushed old insn backward inside at other stands = elim (stands_pushed old insn at other stands) [
  | inl before ↦ backward at other before
  | inr here ↦ rw (here.0, ← here.1) inside
]

pub put_gives : (insn : Insn) (old new : List Insn) (call : SysCall) (a to b value most : ℕ)
    → Puts insn old new
    → LeadsTo insn.op call insn (length old) a to b → Gives old call to b value most
    → Gives new call (length old) a value (most + 1)
put_gives insn old new call a to b value most puts to_is on =
    leads insn puts.stands to b most to_is (omega arith) (puts.keeps call to b value most on)

pub front_gives : (insn : Insn) (old new : List Insn) (call : SysCall) (a to b value most : ℕ)
    → Puts insn old new
    → LeadsTo insn.op call insn (length old) a to b → Gives old call to b value most
    → Gives new call (length new - 1) a value (most + 1)
front_gives insn old new call a to b value most puts to_is on =
    let same : length new - 1 ≡ length old = omega (arith, puts.longer) in
    rw same (put_gives insn old new call a to b value most puts to_is on)

pub put_return : (insn : Insn) (old new : List Insn) (call : SysCall) (a value most : ℕ) → Puts insn old new
    → insn.op ≡ ReturnK → value ≡ insn.k → 0 < most → Gives new call (length old) a value most
put_return insn old new call a value most puts op is some = ends insn puts.stands op is some

pub gives_more : (code : List Insn) (call : SysCall) (at a value most more : ℕ)
    → Gives code call at a value most → most ≤ more → Gives code call at a value more
gives_more code call at a value most more (ends insn stands op is some) larger =
    ends insn stands op is (omega arith)
gives_more code call at a value most more (leads insn stands to b left to_is less on) larger =
    leads insn stands to b left to_is (omega arith) on

-- a return returns nothing but its value
pub return_value : (code : List Insn) (call : SysCall) (at a value most : ℕ) (insn : Insn)
    → slice_get code at ≡ Some insn → insn.op ≡ ReturnK → Gives code call at a value most → value ≡ insn.k
return_value code call at a value most insn stands op (ends other other_stands other_op is some) =
    is ∙ ap (λ (i : Insn). i.k) (same_Some other insn (sym other_stands ∙ stands))
return_value code call at a value most insn stands op (leads other other_stands to b left to_is less on) =
    let returns : other.op ≡ ReturnK = ap (λ (i : Insn). i.op)
    (same_Some other insn (sym other_stands ∙ stands)) ∙ op in
    let P : Operation → Type 0 = λ o. LeadsTo o call other at a to b in
    absurd (subst P returns to_is)

-- a load returns only what the code after it returns with the word in A
pub load_past : (code : List Insn) (call : SysCall) (at a value most : ℕ) (insn : Insn)
    → slice_get code at ≡ Some insn → insn.op ≡ LoadData → Gives code call at a value most
    → (less : ℕ) × (less < most) × Gives code call (at - 1) (data_word call insn.k) value less
load_past code call at a value most insn stands op (ends other other_stands other_op is some) =
    let same : other.op ≡ LoadData = ap (λ (i : Insn). i.op)
    (same_Some other insn (sym other_stands ∙ stands)) ∙ op in
    absurd (cc)
load_past code call at a value most insn stands op (leads other other_stands to b left to_is less on) =
    let whole = same_Some other insn (sym other_stands ∙ stands) in
    let P : Operation → Type 0 = λ o. LeadsTo o call other at a to b in
    let loads : (to + 1 ≡ at) × (b ≡ data_word call other.k) =
    subst P (ap (λ (i : Insn). i.op) whole ∙ op) to_is in
    let before : to ≡ at - 1 = omega (arith, loads.0) in
    let word : b ≡ data_word call insn.k = loads.1 ∙ ap (λ (i : Insn). data_word call i.k) whole in
    let Q : ℕ → Type 0 = λ t. Gives code call t (data_word call insn.k) value left in
    let R : ℕ → Type 0 = λ w. Gives code call to w value left in
    (left, less, subst Q before (subst R word on))

-- a copy of a return further back
pub copy_gives : (insn : Insn) (old new : List Insn) (call : SysCall) (at a value most : ℕ)
    → Puts insn old new → slice_get old at ≡ Some insn → insn.op ≡ ReturnK
    → Gives old call at a value most → Gives new call (length old) a value (most + 1)
copy_gives insn old new call at a value most puts stands op gives =
    put_return insn old new call a value (most + 1) puts op
    (return_value old call at a value most insn stands op gives) (omega arith)

-- a fact about the new place is a fact about the returned place
pub at_is : (P : ℕ → Type 0) (n : ℕ) (r : Result ℕ AllocError) → IfOk r (λ at. at ≡ n) → OnOk r (P n)
    → IfOk r P
at_is P n (Ok at) is p = subst P (sym is) p
at_is P n (Err e) is p = tt

-- where a branch leads
branch_to : (holds : Bool) (insn : Insn) (at hit miss : ℕ) → hit < at → miss < at → insn.jt ≡ at - 1 - hit
    → insn.jf ≡ at - 1 - miss → BranchesTo holds insn at (cond holds hit miss)
branch_to true insn at hit miss hit_in miss_in jt jf = omega arith
branch_to false insn at hit miss hit_in miss_in jt jf = omega arith

branch_leads : (test : Test) (call : SysCall) (insn : Insn) (at a hit miss : ℕ) → hit < at → miss < at
    → insn.jt ≡ at - 1 - hit → insn.jf ≡ at - 1 - miss
    → LeadsTo (operation_of test) call insn at a (cond (holds_of test insn.k a) hit miss) a
branch_leads Equal call insn at a hit miss hit_in miss_in jt jf =
    (branch_to _ insn at hit miss hit_in miss_in jt jf, refl)
branch_leads GreaterOrEqual call insn at a hit miss hit_in miss_in jt jf =
    (branch_to _ insn at hit miss hit_in miss_in jt jf, refl)
branch_leads AnyBit call insn at a hit miss hit_in miss_in jt jf =
    (branch_to _ insn at hit miss hit_in miss_in jt jf, refl)

pub jump_gives : (test : Test) (insn : Insn) (old new : List Insn) (call : SysCall)
    (a hit miss value most : ℕ) → Puts insn old new → insn.op ≡ operation_of test
    → hit < length old → miss < length old → insn.jt ≡ length old - 1 - hit → insn.jf ≡ length old - 1 - miss
    → Gives old call (cond (holds_of test insn.k a) hit miss) a value most
    → Gives new call (length new - 1) a value (most + 1)
jump_gives test insn old new call a hit miss value most puts op hit_in miss_in jt jf on =
    let P : Operation → Type 0 = λ o. LeadsTo o call insn (length old) a
    (cond (holds_of test insn.k a) hit miss) a in
    front_gives insn old new call a (cond (holds_of test insn.k a) hit miss) a value most puts
    (subst P (sym op) (branch_leads test call insn (length old) a hit miss hit_in miss_in jt jf)) on

-- an existing branch
pub branch_gives : (test : Test) (insn : Insn) (code : List Insn) (call : SysCall)
    (at a hit miss value most : ℕ)
    → slice_get code at ≡ Some insn → insn.op ≡ operation_of test → hit < at → miss < at
    → insn.jt ≡ at - 1 - hit → insn.jf ≡ at - 1 - miss
    → Gives code call (cond (holds_of test insn.k a) hit miss) a value most
    → Gives code call at a value (most + 1)
branch_gives test insn code call at a hit miss value most stands op hit_in miss_in jt jf on =
    let P : Operation → Type 0 = λ o. LeadsTo o call insn at a (cond (holds_of test insn.k a) hit miss) a in
    leads insn stands (cond (holds_of test insn.k a) hit miss) a most
    (subst P (sym op) (branch_leads test call insn at a hit miss hit_in miss_in jt jf)) (omega arith) on

-- an existing load
pub load_gives : (insn : Insn) (code : List Insn) (call : SysCall) (at a value most : ℕ)
    → slice_get code at ≡ Some insn → insn.op ≡ LoadData → PointsInside insn.op insn at
    → Gives code call (at - 1) (data_word call insn.k) value most → Gives code call at a value (most + 1)
load_gives insn code call at a value most stands op inside on =
    let P : Operation → Type 0 = λ o. PointsInside o insn at in
    let Q : Operation → Type 0 = λ o. LeadsTo o call insn at a (at - 1) (data_word call insn.k) in
    let some : 0 < at = (subst P op inside).2 in
    leads insn stands (at - 1) (data_word call insn.k) most (subst Q (sym op) (omega arith, refl))
    (omega arith)
    on

-- what is in A does not matter at a return
pub steady_return : (code : List Insn) (call : SysCall) (at a b value most : ℕ) (insn : Insn)
    → slice_get code at ≡ Some insn → insn.op ≡ ReturnK → Gives code call at a value most
    → Gives code call at b value most
steady_return code call at a b value most insn stands op (ends other other_stands other_op is some) =
    ends other other_stands other_op is some
steady_return code call at a b value most insn stands op (leads other other_stands to x left to_is less on) =
    let returns : other.op ≡ ReturnK = ap (λ (i : Insn). i.op)
    (same_Some other insn (sym other_stands ∙ stands)) ∙ op in
    let P : Operation → Type 0 = λ o. LeadsTo o call other at a to x in
    absurd (subst P returns to_is)

-- nor at a load
pub steady_load : (code : List Insn) (call : SysCall) (at a b value most : ℕ) (insn : Insn)
    → slice_get code at ≡ Some insn → insn.op ≡ LoadData → Gives code call at a value most
    → Gives code call at b value most
steady_load code call at a b value most insn stands op (ends other other_stands other_op is some) =
    ends other other_stands other_op is some
steady_load code call at a b value most insn stands op (leads other other_stands to x left to_is less on) =
    let loads : other.op ≡ LoadData = ap (λ (i : Insn). i.op)
    (same_Some other insn (sym other_stands ∙ stands)) ∙ op in
    let P : Operation → Type 0 = λ o. LeadsTo o call other at a to x in
    let Q : Operation → Type 0 = λ o. LeadsTo o call other at b to x in
    leads other other_stands to x left (subst Q (sym loads) (subst P loads to_is)) less on

-- the same for the place in front
pub front_is : (P : ℕ → Type 0) (new : List Insn) (r : Result ℕ AllocError)
    → IfOk r (λ at. at + 1 ≡ length new) → OnOk r (P (length new - 1)) → IfOk r P
front_is P new (Ok at) is p = let same : length new - 1 ≡ at = omega arith in subst P same p
front_is P new (Err e) is p = tt
