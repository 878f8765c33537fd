-- Rows of four numbers, and what they spell.
use Rattle.std.proofs.Common.{◌≡◌, ℕ, suc, eqb, true, false, is_some, List, [], ◌∷◌, ◌++◌, length, get_or}
use Rattle.std.proofs.Common.{map, take, drop, ◌<◌, ◌+◌, arith, Option, Some, None, option_map}
use Rattle.std.proofs.Common.{option_and_then, refl, sym, ap, subst, ◌∙◌}
use Rattle.std.proofs.lemmas.Bool.Decides.{nat_tests}
use Rattle.serde_json.specs.View.{view}
use Rattle.serde_json.specs.declared.value.Value.{Value}
use Rattle.json_tree.proofs.Items.{and_then_some, map_some, each_more}
use Rattle.json_tree.proofs.Loops.{map_parts}
use Rattle.serde_json.specs.Data.{Data}
use Rattle.json_tree.specs.Tree.{each, list, whole, wholes}
use Rattle.std.specs.Int.{w16, w32, to_le_bytes}
use Rattle.std.specs.List.{AllByRecursion}
use Rattle.bpf_code.specs.declared.insn.Insn.{Insn}
use Rattle.bpf_code.specs.Code.{Fits, bytes_of_code, bytes_of_insn}
use Rattle.json_tree.specs.Reading.{Both}
use Rattle.script.specs.declared.install.Row.{Row}
use Rattle.script.specs.Script.{row, row_in, IsSpelled}
use Rattle.script.specs.Reading.{numbers_of}

by_four : (a b c d : Option ℕ)
    → option_and_then row_in (option_and_then
    (λ p. option_map (λ ps. p ∷ ps) (option_and_then
    (λ q. option_map (λ qs. q ∷ qs) (option_and_then
    (λ r. option_map (λ rs. r ∷ rs) (option_and_then (λ s. option_map (λ ss. s ∷ ss) (Some [])) d)) c))
    b)) a)
    ≡ option_and_then (λ code. option_and_then
    (λ jt. option_and_then (λ jf. option_and_then
    (λ k. Some (record { code = code; jt = jt; jf = jf; k = k })) d) c) b) a
by_four None b c d = refl
by_four (Some p) None c d = refl
by_four (Some p) (Some q) None d = refl
by_four (Some p) (Some q) (Some r) None = refl
by_four (Some p) (Some q) (Some r) (Some s) = refl

by_three : (a b c : Option ℕ)
    → option_and_then row_in (option_and_then
    (λ p. option_map (λ ps. p ∷ ps) (option_and_then
    (λ q. option_map (λ qs. q ∷ qs) (option_and_then (λ r. option_map (λ rs. r ∷ rs) (Some [])) c)) b)) a)
    ≡ None
by_three None b c = refl
by_three (Some p) None c = refl
by_three (Some p) (Some q) None = refl
by_three (Some p) (Some q) (Some r) = refl

by_two : (a b : Option ℕ)
    → option_and_then row_in (option_and_then
    (λ p. option_map (λ ps. p ∷ ps) (option_and_then (λ q. option_map (λ qs. q ∷ qs) (Some [])) b)) a)
    ≡ None
by_two None b = refl
by_two (Some p) None = refl
by_two (Some p) (Some q) = refl

by_one : (a : Option ℕ) → option_and_then row_in
    (option_and_then (λ p. option_map (λ ps. p ∷ ps) (Some [])) a) ≡ None
by_one None = refl
by_one (Some p) = refl

by_more : (a b c d e : Option ℕ) (more : Option (List ℕ))
    → option_and_then row_in (option_and_then
    (λ p. option_map (λ ps. p ∷ ps) (option_and_then
    (λ q. option_map (λ qs. q ∷ qs) (option_and_then (λ r. option_map (λ rs. r ∷ rs)
    (option_and_then (λ s. option_map (λ ss. s ∷ ss)
    (option_and_then (λ t. option_map (λ ts. t ∷ ts) more) e)) d)) c)) b)) a) ≡ None
by_more None b c d e more = refl
by_more (Some p) None c d e more = refl
by_more (Some p) (Some q) None d e more = refl
by_more (Some p) (Some q) (Some r) None e more = refl
by_more (Some p) (Some q) (Some r) (Some s) None more = refl
by_more (Some p) (Some q) (Some r) (Some s) (Some t) None = refl
by_more (Some p) (Some q) (Some r) (Some s) (Some t) (Some ts) = refl

not_four : (n : ℕ) → eqb (suc (suc (suc (suc (suc n))))) 4 ≡ false
not_four n = grind (arith, nat_tests)

-- the numbers one by one are those of the list
numbers_are : (items : List Data) → option_and_then row_in (each whole items) ≡ numbers_of items
unfolding numbers_of
numbers_are [] = refl
numbers_are (a ∷ []) = by_one (whole a)
numbers_are (a ∷ b ∷ []) = by_two (whole a) (whole b)
numbers_are (a ∷ b ∷ c ∷ []) = by_three (whole a) (whole b) (whole c)
numbers_are (a ∷ b ∷ c ∷ d ∷ []) = by_four (whole a) (whole b) (whole c) (whole d)
numbers_are (a ∷ b ∷ c ∷ d ∷ e ∷ more) =
    rw (not_four (length more)) (by_more (whole a) (whole b) (whole c) (whole d) (whole e) (each whole more))

of_list : (items : Option (List Data)) → option_and_then row_in (option_and_then (each whole) items)
    ≡ option_and_then numbers_of items
of_list None = refl
of_list (Some items) = numbers_are items

pub row_is : (tree : Data) → row tree ≡ option_and_then numbers_of (list tree)
unfolding row wholes
row_is tree = of_list (list tree)

-- Two codes whose numbers fit are the same if their bytes are.
abbrev pub AreToldApart : Type 0
AreToldApart = (code other : List Insn) → AllByRecursion Fits code → AllByRecursion Fits other
    → bytes_of_code code ≡ bytes_of_code other → code ≡ other

abbrev bytes_by : ℕ → ℕ → ℕ → ℕ → List ℕ
bytes_by code jt jf k = to_le_bytes w16 code ++ jt ∷ jf ∷ to_le_bytes w32 k

spelled_bytes : (number : Row) (insn : Insn) → IsSpelled number insn
    → bytes_of_insn insn ≡ bytes_by number.code number.jt number.jf number.k
spelled_bytes number insn is =
    let s = is.spells in
    ap (λ (code : ℕ). to_le_bytes w16 code ++ insn.jt ∷ insn.jf ∷ to_le_bytes w32 insn.k) s.0
    ∙ ap (λ (jt : ℕ). to_le_bytes w16 number.code ++ jt ∷ insn.jf ∷ to_le_bytes w32 insn.k) s.1
    ∙ ap (λ (jf : ℕ). to_le_bytes w16 number.code ++ number.jt ∷ jf ∷ to_le_bytes w32 insn.k) s.2
    ∙ ap (λ (k : ℕ). to_le_bytes w16 number.code ++ number.jt ∷ number.jf ∷ to_le_bytes w32 k) s.3

same_bytes : (numbers : List Row) (code other : List Insn) → Both IsSpelled numbers code
    → Both IsSpelled numbers other → bytes_of_code code ≡ bytes_of_code other
same_bytes [] [] [] all also = refl
same_bytes [] [] (y ∷ other) all also = absurd also
same_bytes [] (x ∷ code) other all also = absurd all
same_bytes (n ∷ numbers) [] other all also = absurd all
same_bytes (n ∷ numbers) (x ∷ code) [] all also = absurd also
same_bytes (n ∷ numbers) (x ∷ code) (y ∷ other) all also =
    ap (λ (bs : List ℕ). bs ++ bytes_of_code code) (spelled_bytes n x all.0 ∙ sym (spelled_bytes n y also.0))
    ∙ ap (λ (bs : List ℕ). bytes_of_insn y ++ bs) (same_bytes numbers code other all.1 also.1)

all_fit : (numbers : List Row) (code : List Insn) → Both IsSpelled numbers code → AllByRecursion Fits code
all_fit [] [] all = tt
all_fit [] (x ∷ code) all = absurd all
all_fit (n ∷ numbers) [] all = absurd all
all_fit (n ∷ numbers) (x ∷ code) all = (all.0.fits, all_fit numbers code all.1)

-- rows spell one code at most
pub one_code : AreToldApart → (numbers : List Row) (code other : List Insn) → Both IsSpelled numbers code
    → Both IsSpelled numbers other → code ≡ other
one_code apart numbers code other all also =
    apart code other (all_fit numbers code all) (all_fit numbers other also)
    (same_bytes numbers code other all also)

pub some_of : {A : Type 0} (o : Option A) → is_some o ≡ true → (x : A) × (o ≡ Some x)
some_of None h = absurd cc
some_of (Some x) h = (x, refl)

pub both_push : {A B : Type 0} (R : A → B → Type 0) (xs : List A) (ys : List B) (x : A) (y : B) → Both R xs ys
    → R x y → Both R (xs ++ x ∷ []) (ys ++ y ∷ [])
both_push R [] [] x y all here = (here, tt)
both_push R [] (v ∷ ys) x y all here = absurd all
both_push R (u ∷ xs) [] x y all here = absurd all
both_push R (u ∷ xs) (v ∷ ys) x y all here = (all.0, both_push R xs ys x y all.1 here)

-- one more row is an instruction
pub rows_more : (items : List Value) (i : ℕ) (v : Value) (insns : List Insn) (insn : Insn) → i < length items
    → v ≡ get_or items i v
    → ((numbers : List Row) × (each row (map view (take i items)) ≡ Some numbers)
    × Both IsSpelled numbers insns)
    → ((is : Row) × (row (view v) ≡ Some is) × IsSpelled is insn)
    → (numbers : List Row) × (each row (map view (take (i + 1) items)) ≡ Some numbers)
    × Both IsSpelled numbers (insns ++ insn ∷ [])
rows_more items i v insns insn lt is so_far here = (
  so_far.0 ++ here.0 ∷ [],
  each_more row view items i v so_far.0 here.0 lt is so_far.1 here.1,
  both_push IsSpelled so_far.0 insns here.0 insn so_far.2 here.2,
)

no_first : (is : Row) (rest : List Row) (code : List Insn) → ((insn : Insn) → ¬ IsSpelled is insn)
    → Both IsSpelled (is ∷ rest) code → ⊥
no_first is rest [] none all = all
no_first is rest (x ∷ code) none all = none x all.0

no_rest : (is : Row) (rest : List Row) (code : List Insn)
    → ((others : List Insn) → ¬ Both IsSpelled rest others) → Both IsSpelled (is ∷ rest) code → ⊥
no_rest is rest [] none all = all
no_rest is rest (x ∷ code) none all = none code all.1

spelled_first : (is : Row) (rest numbers : List Row) (code : List Insn)
    → ((insn : Insn) → ¬ IsSpelled is insn) → is ∷ rest ≡ numbers → Both IsSpelled numbers code → ⊥
spelled_first is rest numbers code none same all =
    no_first is rest code none (subst (λ ns. Both IsSpelled ns code) (sym same) all)

spelled_rest : (is : Row) (rest numbers : List Row) (code : List Insn)
    → ((others : List Insn) → ¬ Both IsSpelled rest others) → is ∷ rest ≡ numbers
    → Both IsSpelled numbers code → ⊥
spelled_rest is rest numbers code none same all =
    no_rest is rest code none (subst (λ ns. Both IsSpelled ns code) (sym same) all)

stops_at : (front : List Data) (d : Data) (behind : List Data) (numbers : List Row) (code : List Insn)
    → ((is : Row) (insn : Insn) → row d ≡ Some is → ¬ IsSpelled is insn)
    → each row (front ++ d ∷ behind) ≡ Some numbers → Both IsSpelled numbers code → ⊥
stops_at [] d behind numbers code none are all =
    let first = and_then_some _ (row d) _ are in
    let rest = map_some _ (each row behind) _ first.2 in
    spelled_first first.0 rest.0 numbers code (λ insn. none first.0 insn first.1) rest.2 all
stops_at (e ∷ front) d behind numbers code none are all =
    let first = and_then_some _ (row e) _ are in
    let rest = map_some _ (each row (front ++ d ∷ behind)) _ first.2 in
    spelled_rest first.0 rest.0 numbers code (λ others. stops_at front d behind rest.0 others none rest.1)
    rest.2 all

-- one row is none
pub rows_stop : (items : List Value) (i : ℕ) (v : Value) → i < length items → v ≡ get_or items i v
    → ((is : Row) (insn : Insn) → row (view v) ≡ Some is → ¬ IsSpelled is insn)
    → (numbers : List Row) (code : List Insn) → each row (map view items) ≡ Some numbers
    → ¬ Both IsSpelled numbers code
rows_stop items i v lt is none numbers code are all =
    stops_at (map view (take i items)) (view v) (map view (drop (i + 1) items)) numbers code none
    (sym (ap (each row) (map_parts view items i v lt is)) ∙ are) all
