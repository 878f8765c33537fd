-- Added clauses, and what they require.
use Rattle.compile.proofs.Common.{◌≡◌, ℕ, ◌+◌, ◌≤◌, ◌==◌, ◌&&◌, ◌/◌, ◌%◌, Bool, true, false, not, cond, List}
use Rattle.compile.proofs.Common.{[], ◌∷◌, ◌++◌, refl, sym, ap, ◌∙◌, arith, ◌||◌, All, bit_and, nat_le}
use Rattle.compile.proofs.Common.{nat_lt, nat_tests, SysCall, IsCall, Cond, Entry, all_hold, all_of, Clause}
use Rattle.compile.proofs.Common.{Rule, clause_holds, clauses_hold, Says, size_of_clause, size_of_clauses}
use Rattle.compile.proofs.Common.{size_of_rules}
use Rattle.std.proofs.lemmas.List.Folds.{list_all-append}
use Rattle.std.proofs.lemmas.List.Elements.{All-append, All-cons}
use Rattle.compile.specs.Rooms.{IsSmallClause, IsWithin, is_large}
use Rattle.compile.proofs.Words.{eq_halves, masked_halves, from_halves, above_halves}

and_true : (b : Bool) → (b && true) ≡ b
and_true true = refl
and_true false = refl

and_of : (a b c : Bool) → ((a && b) && c) ≡ (a && (b && c))
and_of true b c = refl
and_of false b c = refl

size_pushed : (old : List Clause) (clause : Clause)
    → size_of_clauses (old ++ clause ∷ []) ≡ size_of_clauses old + size_of_clause clause
size_pushed [] clause = omega arith
size_pushed (one ∷ old) clause = omega (arith, size_pushed old clause)

none_within : All IsWithin []
none_within = λ k d inside. absurd (omega (arith, inside))

pub says_one : (old : List Clause) (clause : Clause) (n : ℕ) → IsSmallClause n clause
    → Says old (old ++ clause ∷ []) (λ call. clause_holds clause call) n
says_one old clause n small = record {
  same = λ call is_call. list_all-append (λ c. clause_holds c call) old (clause ∷ [])
      ∙ ap (λ b. clauses_hold old call && b) (and_true (clause_holds clause call));
  longer = omega (arith, size_pushed old clause, small.short);
  within = λ olds. All-append IsWithin old (clause ∷ []) olds
      (All-cons IsWithin clause [] small.within none_within);
}

pub says_none : (old : List Clause) (clause : Clause) (n : ℕ)
    → ((call : SysCall) → clause_holds clause call ≡ true) → Says old old (λ call. clause_holds clause call) n
says_none old clause n holds = record {
  same = λ call is_call. sym (and_true (clauses_hold old call))
      ∙ ap (λ b. clauses_hold old call && b) (sym (holds call));
  longer = omega arith;
  within = λ olds. olds;
}

pub says_then : (old mid new : List Clause) (one other : SysCall → Bool) (m n : ℕ) → Says old mid one m
    → Says mid new other n → Says old new (λ call. one call && other call) (m + n)
says_then old mid new one other m n first second = record {
  same = λ call is_call. second.same call is_call ∙ ap (λ b. b && other call) (first.same call is_call)
      ∙ and_of (clauses_hold old call) (one call) (other call);
  longer = omega (arith, first.longer, second.longer);
  within = λ olds. second.within (first.within olds);
}

pub says_as : (old new : List Clause) (one other : SysCall → Bool) (m n : ℕ) → Says old new one m → m ≤ n
    → ((call : SysCall) → IsCall call → one call ≡ other call) → Says old new other n
says_as old new one other m n says larger same = record {
  same = λ call is_call. says.same call is_call ∙ ap (λ b. clauses_hold old call && b) (same call is_call);
  longer = omega (arith, says.longer);
  within = says.within;
}

-- if the upper half is above, it is at least as large
not_large : (above from lower : Bool) → (above ≡ true → from ≡ true)
    → (not above && (not from || not lower)) ≡ not (from && (above || lower))
not_large true true lower implies = refl
not_large true false lower implies = absurd (let e : false ≡ true = implies refl in cc)
not_large false true true implies = refl
not_large false true false implies = refl
not_large false false lower implies = refl

pub says_small : (above from lower : Bool) → (above ≡ true → from ≡ true)
    → (not above && (not from || not lower)) ≡ not (from && (above || lower))
says_small above from lower implies = not_large above from lower implies

pub surely_small : (above from : Bool) → not from ≡ not (from && (above || true))
surely_small true true = refl
surely_small true false = refl
surely_small false true = refl
surely_small false false = refl

order_both : (a b : ℕ) (z : Bool) → cond (nat_lt a b) true (cond (b == a) z false)
    ≡ (nat_le a b && (nat_lt a b || z))
order_both a b true = grind (arith, nat_tests)
order_both a b false = grind (arith, nat_tests)

pub large_halves : (includes : Bool) (value arg : ℕ) → is_large includes value arg
    ≡ (nat_le (value / 4294967296) (arg / 4294967296) && (nat_lt (value / 4294967296) (arg / 4294967296)
    || is_large includes (value % 4294967296) (arg % 4294967296)))
large_halves true value arg = from_halves arg value ∙ order_both (value / 4294967296) (arg / 4294967296) _
large_halves false value arg = above_halves arg value ∙ order_both (value / 4294967296) (arg / 4294967296) _

and_turned : (a b : Bool) → cond a b false ≡ (b && a)
and_turned true true = refl
and_turned true false = refl
and_turned false true = refl
and_turned false false = refl

or_turned : (a b : Bool) → not (cond a b false) ≡ (not b || not a)
or_turned true true = refl
or_turned true false = refl
or_turned false true = refl
or_turned false false = refl

pub equal_both : (arg value : ℕ) → (arg == value)
    ≡ ((arg % 4294967296 == value % 4294967296) && (arg / 4294967296 == value / 4294967296))
equal_both arg value = eq_halves arg value
    ∙ and_turned (arg / 4294967296 == value / 4294967296) (arg % 4294967296 == value % 4294967296)

pub unequal_either : (arg value : ℕ) → not (arg == value)
    ≡ (not (arg % 4294967296 == value % 4294967296) || not (arg / 4294967296 == value / 4294967296))
unequal_either arg value = ap not (eq_halves arg value)
    ∙ or_turned (arg / 4294967296 == value / 4294967296) (arg % 4294967296 == value % 4294967296)

pub masked_both : (arg mask with : ℕ) → (bit_and arg mask == with)
    ≡ ((bit_and (arg % 4294967296) (mask % 4294967296) == with % 4294967296)
    && (bit_and (arg / 4294967296) (mask / 4294967296) == with / 4294967296))
masked_both arg mask with = masked_halves arg mask with
    ∙ and_turned (bit_and (arg / 4294967296) (mask / 4294967296) == with / 4294967296)
    (bit_and (arg % 4294967296) (mask % 4294967296) == with % 4294967296)

pub same_equal : (b : Bool) (word k x v : ℕ) → b ≡ (word == k) → word ≡ x → k ≡ v → b ≡ (x == v)
same_equal b word k x v is here there = is ∙ ap (λ n. n == k) here ∙ ap (λ n. x == n) there

pub same_masked : (b : Bool) (word mask with x m v : ℕ) → b ≡ (bit_and word mask == with) → word ≡ x
    → mask ≡ m → with ≡ v → b ≡ (bit_and x m == v)
same_masked b word mask with x m v is here there what =
    is ∙ ap (λ n. bit_and n mask == with) here ∙ ap (λ n. bit_and x n == with) there
    ∙ ap (λ n. bit_and x m == n) what

pub entry_says : (entry : Entry) (conds : List Cond) (clauses : List Clause) (n : ℕ) (call : SysCall)
    → conds ≡ entry.conds → Says [] clauses (λ at. all_of conds at) n → IsCall call
    → clauses_hold clauses call ≡ all_hold entry call
unfolding all_hold
entry_says entry conds clauses n call same says is_call =
    says.same call is_call ∙ ap (λ cs. all_of cs call) same

-- clauses that say something by themselves
pub says_is : (old clauses slice : List Clause) (holds : SysCall → Bool) (n : ℕ) (call : SysCall) → old ≡ []
    → slice ≡ clauses → Says old clauses holds n → IsCall call → clauses_hold slice call ≡ holds call
says_is old clauses slice holds n call none same says is_call =
    ap (λ cs. clauses_hold cs call) same ∙ says.same call is_call
    ∙ ap (λ cs. clauses_hold cs call && holds call) none

pub says_size : (old clauses slice : List Clause) (holds : SysCall → Bool) (n : ℕ) → old ≡ []
    → slice ≡ clauses → Says old clauses holds n → size_of_clauses slice ≤ n
says_size old clauses slice holds n none same says =
    omega (arith, ap size_of_clauses same, says.longer, ap size_of_clauses none)

pub size_of_pushed : (rules : List Rule) (rule : Rule)
    → size_of_rules (rules ++ rule ∷ []) ≡ size_of_rules rules + size_of_clauses rule.clauses.items
size_of_pushed [] rule = omega arith
size_of_pushed (one ∷ rules) rule = omega (arith, size_of_pushed rules rule)
