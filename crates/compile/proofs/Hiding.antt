-- Equal clauses hold for the same calls, and a rule that holds makes those after it needless.
use Rattle.compile.proofs.Common.{◌≡◌, ℕ, ◌<◌, ◌&&◌, List, [], ◌∷◌, cond, drop, get_or, length, take, refl}
use Rattle.compile.proofs.Common.{sym, ap, ◌∙◌, Bool, true, false, true≢false, take-append-drop, SysCall, Ask}
use Rattle.compile.proofs.Common.{Atom, View, Clause, Literal, Known, Asked, Rule, clause_holds, clauses_hold}
use Rattle.compile.proofs.Common.{first_value}
use Rattle.std.proofs.Common.{eqb-true}
use Rattle.std.specs.Cmp.{booleans_Decides, first_so, second_so}
use Rattle.std.specs.Cmp.Lexicographic.{pointwise}
use Rattle.compile.specs.declared.atom.Ask.TheVariants.{Equal, AtLeast}
use Rattle.compile.proofs.Restricting.{certain_here, first_append}
use Rattle.compile.specs.contracts.atom.AskPartialEq.TheImpl as ask_eq
use Rattle.compile.specs.contracts.atom.ViewPartialEq.TheImpl as view_eq
use Rattle.compile.specs.contracts.atom.AtomPartialEq.TheImpl as atom_eq
use Rattle.compile.specs.contracts.clause.ClausePartialEq.TheImpl as clause_eq
use Rattle.compile.specs.contracts.clause.LiteralPartialEq.TheImpl as literal_eq

ask_is : (one other : Ask) → ask_eq.eq-value.it one other ≡ true → one ≡ other
ask_is (Equal k) (Equal m) same = ap Equal (eqb-true k m same)
ask_is (Equal k) (AtLeast m) same = absurd (true≢false (sym same))
ask_is (AtLeast k) (Equal m) same = absurd (true≢false (sym same))
ask_is (AtLeast k) (AtLeast m) same = ap AtLeast (eqb-true k m same)

view_is : (one other : View) → view_eq.eq-value.it one other ≡ true → one ≡ other
view_is one other same =
    ap (λ (n : ℕ). record { offset = n; mask = one.mask })
    (eqb-true one.offset other.offset (first_so _ _ same))
    ∙ ap (λ (n : ℕ). record { offset = other.offset; mask = n })
    (eqb-true one.mask other.mask (second_so _ _ same))

atom_is : (one other : Atom) → atom_eq.eq-value.it one other ≡ true → one ≡ other
atom_is one other same =
    ap (λ (v : View). record { view = v; ask = one.ask }) (view_is one.view other.view (first_so _ _ same))
    ∙ ap (λ (a : Ask). record { view = other.view; ask = a }) (ask_is one.ask other.ask (second_so _ _ same))

literal_is : (one other : Literal) → literal_eq.eq-value.it one other ≡ true → one ≡ other
literal_is (Known one) (Known other) same = ap Known ((booleans_Decides one other).0 same)
literal_is (Known one) (Asked atom wanted) same = absurd (true≢false (sym same))
literal_is (Asked one wanted) (Known other) same = absurd (true≢false (sym same))
literal_is (Asked one wanted) (Asked other sought) same =
    ap (λ a. Asked a wanted) (atom_is one other (first_so _ _ same))
    ∙ ap (λ b. Asked other b) ((booleans_Decides wanted sought).0 (second_so _ _ same))

clause_is : (one other : Clause) → clause_eq.eq-value.it one other ≡ true → one ≡ other
clause_is one other same =
    ap (λ (l : Literal). record { one = l; other = one.other })
    (literal_is one.one other.one (first_so _ _ same))
    ∙ ap (λ (l : Literal). record { one = other.one; other = l })
    (literal_is one.other other.other (second_so _ _ same))

-- equal clauses hold for the same calls
pub clauses_are : (some others : List Clause) (call : SysCall)
    → pointwise (clause_eq.eq-value.it) some others ≡ true
    → clauses_hold some call ≡ clauses_hold others call
clauses_are [] [] call same = refl
clauses_are [] (other ∷ others) call same = absurd (true≢false (sym same))
clauses_are (one ∷ some) [] call same = absurd (true≢false (sym same))
clauses_are (one ∷ some) (other ∷ others) call same =
    ap (λ c. clause_holds c call && clauses_hold some call) (clause_is one other (first_so _ _ same))
    ∙ ap (λ b. clause_holds other call && b) (clauses_are some others call (second_so _ _ same))

-- if one of the rules holds, what comes after them does not matter
pub hidden_at : (rules : List Rule) (at one other : ℕ) (call : SysCall) (rule : Rule) → at < length rules
    → rule ≡ get_or rules at rule → clauses_hold rule.clauses.items call ≡ true
    → first_value rules one call ≡ first_value rules other call
hidden_at rules at one other call rule inside is holds =
    let from : (n : ℕ) → first_value rules n call ≡ first_value (take at rules) rule.value call =
    λ n. ap (λ rs. first_value rs n call) (sym (take-append-drop at rules))
    ∙ first_append (take at rules) (drop at rules) n call
    ∙ ap (λ m. first_value (take at rules) m call)
    (certain_here rules at n rule.value call rule inside is refl holds) in
    from one ∙ sym (from other)

-- a rule adds nothing if the rules before it decide wherever it holds
pub hidden_adds : (rules : List Rule) (value other : ℕ) (call : SysCall) (holds : Bool)
    → (holds ≡ true → (one another : ℕ) → first_value rules one call ≡ first_value rules another call)
    → first_value rules other call ≡ first_value rules (cond holds value other) call
hidden_adds rules value other call true same = same refl other value
hidden_adds rules value other call false same = refl
