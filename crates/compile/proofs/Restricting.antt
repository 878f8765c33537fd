-- Rules, and what is left of them.
use Rattle.compile.proofs.Common.{◌≡◌, ℕ, ◌+◌, ◌-◌, ◌<◌, arith, List, [], ◌∷◌, ◌++◌, cond, drop, get_or}
use Rattle.compile.proofs.Common.{length, take, refl, sym, ap, subst, ◌∙◌, Bool, true, false, Option, Some}
use Rattle.compile.proofs.Common.{IfSome, at_drop_more, take_all, take-append-drop, SysCall, Rule}
use Rattle.compile.proofs.Common.{Clause, clauses_hold, first_value}
use Rattle.std.proofs.lemmas.List.{length-drop}

pub first_append : (rules others : List Rule) (other : ℕ) (call : SysCall)
    → first_value (rules ++ others) other call ≡ first_value rules (first_value others other call) call
first_append [] others other call = refl
first_append (rule ∷ rules) others other call =
    ap (λ n. cond (clauses_hold rule.clauses.items call) rule.value n) (first_append rules others other call)

-- the rules from one place on, after those before it
pub first_parted : (rules : List Rule) (at other : ℕ) (call : SysCall)
    → first_value (take at rules) (first_value (take (length rules - at) (drop at rules)) other call) call
    ≡ first_value rules other call
first_parted rules at other call =
    ap (λ rs. first_value (take at rules) (first_value rs other call) call)
    (take_all (length rules - at) (drop at rules) (omega (arith, length-drop at rules)))
    ∙ sym (first_append (take at rules) (drop at rules) other call)
    ∙ ap (λ rs. first_value rs other call) (take-append-drop at rules)

either_is : (holds : Bool) (one other value : ℕ) → one ≡ value → other ≡ value → cond holds one other ≡ value
either_is true one other value first second = first
either_is false one other value first second = second

-- the rules from one on
pub first_from : (rules : List Rule) (at other : ℕ) (call : SysCall) (rule : Rule) → at < length rules
    → rule ≡ get_or rules at rule
    → first_value (drop at rules) other call
    ≡ cond (clauses_hold rule.clauses.items call) rule.value (first_value (drop (at + 1) rules) other call)
first_from rules at other call rule inside is =
    at_drop_more (λ rs. first_value rs other call) rules at rule inside
    ∙ ap (λ (r : Rule). cond (clauses_hold r.clauses.items call) r.value
    (first_value (drop (at + 1) rules) other call)) (sym is)

pub left_some : {X : Type 0} (found : Option X) (x : X) (P : X → Type 0) → found ≡ Some x → IfSome found P
    → P x
left_some {X} found x P is holds =
    let Q : Option X → Type 0 = λ o. IfSome o P in
    subst Q is holds

-- a rule in front returns what those after it return
pub certain_from : (rules : List Rule) (at other value : ℕ) (call : SysCall) (rule : Rule) → at < length rules
    → rule ≡ get_or rules at rule → rule.value ≡ value → first_value (drop (at + 1) rules) other call ≡ value
    → first_value (drop at rules) other call ≡ value
certain_from rules at other value call rule inside is same behind =
    first_from rules at other call rule inside is
    ∙ either_is (clauses_hold rule.clauses.items call) rule.value
    (first_value (drop (at + 1) rules) other call)
    value same behind

-- a rule that always holds returns its value
pub certain_here : (rules : List Rule) (at other value : ℕ) (call : SysCall) (rule : Rule) → at < length rules
    → rule ≡ get_or rules at rule → rule.value ≡ value → clauses_hold rule.clauses.items call ≡ true
    → first_value (drop at rules) other call ≡ value
certain_here rules at other value call rule inside is same holds =
    first_from rules at other call rule inside is
    ∙ ap (λ b. cond b rule.value (first_value (drop (at + 1) rules) other call)) holds ∙ same

-- no clauses always hold
pub none_hold : (clauses : List Clause) (call : SysCall) → length clauses ≡ 0 → clauses_hold clauses call ≡ true
none_hold [] call none = refl
none_hold (clause ∷ clauses) call none = absurd (omega (arith, none))
