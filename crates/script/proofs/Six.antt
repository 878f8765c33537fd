-- Six arguments, each read by itself, are those of the list read as a whole.
use Rattle.std.proofs.Common.{◌≡◌, ℕ, zero, suc, ◌<◌, ◌≤◌, List, [], ◌∷◌, length, codes, ltb, Option, Some}
use Rattle.std.proofs.Common.{None, unwrap_or, Result, Ok, refl, sym, ap, ◌∙◌, arith, slice_get, slice_index}
use Rattle.std.proofs.lemmas.Bool.{le-ltb, ltb-false}
use Rattle.serde_json.specs.Data.{Data}
use Rattle.json_tree.specs.Tree.{each, list, whole, wholes}
use Rattle.json_tree.specs.Reading.{or_else, refuse_if, MayHaveField}
use Rattle.json_tree.proofs.Loops.{bind_ok, then_ok}
use Rattle.json_tree.proofs.Items.{and_then_some, map_some}
use Rattle.json_tree.proofs.Fields.{or_else_ok, refuse_if_ok}
use Rattle.json_place.proofs.PlacedFields.{optional_only}
use Rattle.json_place.specs.Parts.{Member}
use Rattle.script.specs.declared.faults.ScriptFault.TheVariants.{WrongType}
use Rattle.script.specs.declared.placed.ScriptFaultAt.{ScriptFaultAt}
use Rattle.script.specs.Faults.{fault_here, fault_of_item, under}
use Rattle.script.specs.Script.{HasArgs, six}
use Rattle.script.specs.Reading.{given_argument, argument_of, args_of, six_of}

argument_is : (items : List Data) (numbers : List ℕ) (place index : ℕ) → each whole items ≡ Some numbers
    → given_argument index (slice_get items place) ≡ Ok (slice_index numbers place)
argument_is [] numbers place index h =
    let none : [] ≡ numbers = cc in
    rw (sym none) refl
argument_is (d ∷ ds) numbers zero index h =
    let first = and_then_some _ (whole d) _ h in
    let rest = map_some _ (each whole ds) _ first.2 in
    ap (or_else (fault_of_item index WrongType)) first.1 ∙ ap (λ (ns : List ℕ). Ok (slice_index ns 0)) rest.2
argument_is (d ∷ ds) numbers (suc place) index h =
    let first = and_then_some _ (whole d) _ h in
    let rest = map_some _ (each whole ds) _ first.2 in
    argument_is ds rest.0 place index rest.1 ∙ ap (λ (ns : List ℕ). Ok (slice_index ns (suc place))) rest.2

-- that it is a number, whatever its fault would be
abbrev IsNumber : List Data → ℕ → Type 0
IsNumber items place = (index : ℕ) × ((n : ℕ) × (given_argument index (slice_get items place) ≡ Ok n))

each_there : (items : List Data) → ((place : ℕ) → place < length items → IsNumber items place)
    → (numbers : List ℕ) × (each whole items ≡ Some numbers)
each_there [] all = ([], refl)
each_there (d ∷ ds) all =
    let first = all 0 (omega arith) in
    let here : whole d ≡ Some first.1.0 = or_else_ok (fault_of_item first.0 WrongType)
    (whole d) first.1.0 first.1.1 in
    let rest = each_there ds (λ place lt. all (suc place) (omega arith)) in
    (first.1.0 ∷ rest.0, rw (here, rest.1) refl)

one_of_six : (items : List Data) (a b c d e f : ℕ) → argument_of items 0 ≡ Ok a → argument_of items 1 ≡ Ok b
    → argument_of items 2 ≡ Ok c
    → argument_of items 3 ≡ Ok d → argument_of items 4 ≡ Ok e → argument_of items 5 ≡ Ok f → length items ≤ 6
    → (place : ℕ) → place < length items → IsNumber items place
one_of_six items a b c d e f at0 at1 at2 at3 at4 at5 few zero lt = (0, (a, at0))
one_of_six items a b c d e f at0 at1 at2 at3 at4 at5 few (suc zero) lt = (1, (b, at1))
one_of_six items a b c d e f at0 at1 at2 at3 at4 at5 few (suc (suc zero)) lt = (2, (c, at2))
one_of_six items a b c d e f at0 at1 at2 at3 at4 at5 few (suc (suc (suc zero))) lt = (3, (d, at3))
one_of_six items a b c d e f at0 at1 at2 at3 at4 at5 few (suc (suc (suc (suc zero)))) lt = (4, (e, at4))
one_of_six items a b c d e f at0 at1 at2 at3 at4 at5 few (suc (suc (suc (suc (suc zero))))) lt = (5, (f, at5))
one_of_six items a b c d e f at0 at1 at2 at3 at4 at5 few (suc (suc (suc (suc (suc (suc place)))))) lt =
    absurd (omega arith)

six_only : (items : List Data) (numbers : List ℕ) → each whole items ≡ Some numbers → length items ≤ 6
    → six_of items ≡ Ok (six numbers)
unfolding six_of
six_only items numbers h few =
    rw (
      le-ltb 6 (length items) few,
      argument_is items numbers 0 0 h,
      argument_is items numbers 1 1 h,
      argument_is items numbers 2 2 h,
      argument_is items numbers 3 3 h,
      argument_is items numbers 4 4 h,
      argument_is items numbers 5 5 h,
    ) refl

same_list : (x y : List ℕ) (r : Result (List ℕ) ScriptFaultAt) → r ≡ Ok x → r ≡ Ok y → x ≡ y
same_list x y r one other = cc

six_found : (items : List Data) (args : List ℕ) → six_of items ≡ Ok args → (numbers : List ℕ)
    × (each whole items ≡ Some numbers) × (length items ≤ 6) × (args ≡ six numbers)
unfolding six_of
six_found items args h =
    let small = then_ok (refuse_if (ltb 6 (length items)) (fault_here WrongType)) _ _ h in
    let few : length items ≤ 6 = ltb-false 6 (length items)
    (refuse_if_ok (ltb 6 (length items)) (fault_here WrongType) small.0 small.1) in
    let a = bind_ok (argument_of items 0) _ _ small.2 in
    let b = bind_ok (argument_of items 1) _ _ a.2 in
    let c = bind_ok (argument_of items 2) _ _ b.2 in
    let d = bind_ok (argument_of items 3) _ _ c.2 in
    let e = bind_ok (argument_of items 4) _ _ d.2 in
    let f = bind_ok (argument_of items 5) _ _ e.2 in
    let all = each_there items (one_of_six items a.0 b.0 c.0 d.0 e.0 f.0 a.1 b.1 c.1 d.1 e.1 f.1 few) in
    (all.0, all.1, few, same_list args (six all.0) (six_of items) h (six_only items all.0 all.1 few))

-- as many numbers as items
length_each : (items : List Data) (numbers : List ℕ) → each whole items ≡ Some numbers
    → length numbers ≡ length items
length_each [] numbers h =
    let none : [] ≡ numbers = cc in
    ap length (sym none)
length_each (d ∷ ds) numbers h =
    let first = and_then_some _ (whole d) _ h in
    let rest = map_some _ (each whole ds) _ first.2 in
    ap length (sym rest.2) ∙ ap suc (length_each ds rest.0 rest.1)

pub has_args : (tree : Data) (given : Option (List Data)) (args : List ℕ)
    → MayHaveField list (codes "args") tree given → six_of (unwrap_or given []) ≡ Ok args → HasArgs tree args
unfolding wholes
has_args tree None args there h =
    let is = six_found [] args h in
    let none : [] ≡ is.0 = cc in
    record { given = None; there = there; few = omega arith; is = is.3 ∙ ap six (sym none) }
has_args tree (Some items) args there h =
    let is = six_found items args h in
    record {
      given = Some is.0;
      there = (there.0, there.1, rw there.2 is.1);
      few =
          omega (arith, length_each items is.0 is.1, is.2);
      is = is.3;
    }

args_given : (tree : Data) (given : Option (List ℕ)) (args : List ℕ)
    → MayHaveField wholes (codes "args") tree given → length (unwrap_or given []) ≤ 6
    → args ≡ six (unwrap_or given []) → args_of tree ≡ Ok args
unfolding args_of wholes
args_given tree None args there few is =
    rw (optional_only list (codes "args") tree None there)
    (ap (under (Member (codes "args"))) (six_only [] [] refl (omega arith)) ∙ ap Ok (sym is))
args_given tree (Some numbers) args there few is =
    let items = and_then_some (each whole) (list there.0) numbers there.2 in
    rw (optional_only list (codes "args") tree (Some items.0) (there.0, there.1, items.1))
    (ap (under (Member (codes "args"))) (six_only items.0 numbers items.2
    (omega (arith, length_each items.0 numbers items.2, few))) ∙ ap Ok (sym is))

pub args_only : (tree : Data) (args : List ℕ) → HasArgs tree args → args_of tree ≡ Ok args
args_only tree args h = args_given tree h.given args h.there h.few h.is
