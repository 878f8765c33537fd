use Rattle.compile.proofs.Common.{◌≡◌, ℕ, ◌+◌, ◌-◌, ◌*◌, ◌/◌, Bool, false, cond, refl, sym, ◌∙◌, List}
use Rattle.compile.proofs.Common.{arith, true≢false, length, subst, get_or, nat_le, slice_index, IfOk-weaker}
use Rattle.compile.proofs.Common.{Insn, SysCall, IsCall, GivesAlways, IsRising, IsSearched, value_for}
use Rattle.compile.proofs.Common.{clauses_hold, size_of_clauses, Clause, Point}
use Rattle.compile.proofs.Finding.{few_steps, half_for, half_steps, nearer_gives, no_point, rising_drop}
use Rattle.compile.proofs.Finding.{rising_take}
use Rattle.compile.proofs.Saying.{says_is, says_size}
use Rattle.compile.proofs.Words.{GivesAlways-more, by_test}
use Rattle.compile.proofs.search.+search.Goals as goal

pub returns-then-points-lt-MANY-clause-gives : goal.returns-then-points-lt-MANY-clause-gives
returns-then-points-lt-MANY-clause-gives t c =
    let points : List Point = c.args.points.now in
    let new : List Insn = c.few.new.code in
    let value : SysCall → ℕ = λ call. value_for points (slice_index call.args c.args.index) c.args.other in
    let Given : ℕ → Type 0 = λ at. (call : SysCall) → IsCall call
    → GivesAlways new call at (value call) (1 + 4 * length points) in
    let Wanted : ℕ → Type 0 = λ at. (call : SysCall) (most : ℕ) → IsCall call
    → IsSearched (length points) most → GivesAlways new call at (value call) most in
    IfOk-weaker c.few.result Given Wanted (λ at gives call most is_call enough.
    GivesAlways-more new call at (value call) (1 + 4 * length points) most (gives call is_call)
    (few_steps (length points) most (omega (arith, c.if-points-lt-MANY.true)) enough)) c.few.ensures.gives

pub search-requires : goal.search-requires
search-requires t c = (
  omega (arith, c.split_at.ensures.front_len, c.if-points-lt-MANY.false),
  (
    c.requires.index_in,
    (
      subst IsRising (sym c.split_at.ensures.front)
          (rising_take (length c.args.points.now / 2) c.args.points.now c.requires.rising),
      omega (arith, c.requires.short, c.split_at.ensures.front_len),
    ),
  ),
)

pub search-requires-2 : goal.search-requires-2
search-requires-2 t c = (
  omega (arith, c.split_at.ensures.back_len, c.if-points-lt-MANY.false),
  (
    c.requires.index_in,
    (
      subst IsRising (sym c.split_at.ensures.back)
          (rising_drop (length c.args.points.now / 2) c.args.points.now c.requires.rising),
      omega (
        arith,
        c.requires.short,
        c.split_at.ensures.front_len,
        c.split_at.ensures.back_len,
        c.in_ok-below.ensures.shorter
            (omega (arith, c.split_at.ensures.front_len, c.if-points-lt-MANY.false)),
      ),
    ),
  ),
)

pub returns-then-is_void-clause-gives : goal.returns-then-is_void-clause-gives
returns-then-is_void-clause-gives t c = λ call most is_call enough.
    let points : List Point = c.args.points.now in
    let smaller : List Point = c.split_at.result.0.now in
    let larger : List Point = c.split_at.result.1.now in
    let arg : ℕ = slice_index call.args c.args.index in
    let new : List Insn = c.near-2.new.self in
    let lower = half_steps (length points) (length smaller) most (omega (arith, c.if-points-lt-MANY.false))
    (omega (arith, c.split_at.ensures.front_len)) enough in
    let P : ℕ → Bool → Type 0 = λ v b. b ≡ false → GivesAlways new call c.in_ok-miss.miss v most in
    half_for points smaller larger (length points / 2) arg c.args.other no_point P c.requires.rising
    (omega (arith, c.if-points-lt-MANY.false)) c.split_at.ensures.front c.split_at.ensures.back
    (λ _. GivesAlways-more new call c.in_ok-miss.miss (value_for smaller arg c.args.other) (most - 8 + 1) most
    (nearer_gives c.search.new.code c.search-2.new.code c.near.new.self new call c.in_ok-below.below
    c.in_ok-miss.miss (value_for smaller arg c.args.other) (most - 8) c.in_ok-above.ensures.builds.keeps
    c.in_ok-miss.ensures.gives c.in_ok-hit.ensures.builds.keeps
    (c.in_ok-below.ensures.gives call (most - 8) is_call lower.1)) (omega (arith, lower.0)))
    (λ yes. absurd (true≢false yes))
    (sym (says_is c.new-clauses.result.items
    c.add_order.new.clauses.items c.as_slice.result.now _ 6 call
    c.new-clauses.ensures.items c.as_slice.ensures.value c.in_ok-add_order.ensures is_call)
    ∙ c.if-is_void.ensures.yes refl call)

pub returns-clause-gives : goal.returns-clause-gives
returns-clause-gives t c =
    let points : List Point = c.args.points.now in
    let smaller : List Point = c.split_at.result.0.now in
    let larger : List Point = c.split_at.result.1.now in
    let mid : List Insn = c.near-2.new.self in
    let new : List Insn = c.test_clauses.new.code in
    let slice : List Clause = c.as_slice-2.result.now in
    let Given : ℕ → Type 0 = λ at. (call : SysCall) (value most : ℕ)
    → GivesAlways mid call (cond (clauses_hold slice call) c.in_ok-hit.hit c.in_ok-miss.miss) value most
    → GivesAlways new call at value (most + size_of_clauses slice) in
    let Wanted : ℕ → Type 0 = λ at. (call : SysCall) (most : ℕ) → IsCall call
    → IsSearched (length points) most → GivesAlways new call at
    (value_for points (slice_index call.args c.args.index) c.args.other) most in
    IfOk-weaker c.test_clauses.result Given Wanted (λ at tests call most is_call enough.
    let arg : ℕ = slice_index call.args c.args.index in
    let value : ℕ = value_for points arg c.args.other in
    let lower = half_steps (length points) (length smaller) most (omega (arith, c.if-points-lt-MANY.false))
    (omega (arith, c.split_at.ensures.front_len)) enough in
    let upper = half_steps (length points) (length larger) most (omega (arith, c.if-points-lt-MANY.false))
    (omega (arith, c.split_at.ensures.back_len)) enough in
    let P : ℕ → Bool → Type 0 = λ v b.
    GivesAlways mid call (cond b c.in_ok-hit.hit c.in_ok-miss.miss) v (most - 8 + 1) in
    GivesAlways-more new call at value (most - 8 + 1 + size_of_clauses slice) most
    (tests call value (most - 8 + 1) (by_test mid call (nat_le (get_or larger 0 no_point).number arg)
    (clauses_hold slice call) c.in_ok-hit.hit c.in_ok-miss.miss value (most - 8 + 1)
    (sym (says_is c.new-clauses.result.items
    c.add_order.new.clauses.items slice _ 6 call
    c.new-clauses.ensures.items c.as_slice-2.ensures.value c.in_ok-add_order.ensures is_call))
    (half_for points smaller larger (length points / 2) arg c.args.other no_point P c.requires.rising
    (omega (arith, c.if-points-lt-MANY.false)) c.split_at.ensures.front c.split_at.ensures.back
    (nearer_gives c.search.new.code c.search-2.new.code c.near.new.self mid call c.in_ok-below.below
    c.in_ok-miss.miss (value_for smaller arg c.args.other) (most - 8) c.in_ok-above.ensures.builds.keeps
    c.in_ok-miss.ensures.gives c.in_ok-hit.ensures.builds.keeps
    (c.in_ok-below.ensures.gives call (most - 8) is_call lower.1))
    (nearer_gives c.search-2.new.code c.near.new.self mid mid call c.in_ok-above.above c.in_ok-hit.hit
    (value_for larger arg c.args.other) (most - 8) c.in_ok-miss.ensures.builds.keeps
    c.in_ok-hit.ensures.gives (λ _ place a v m g. g)
    (c.in_ok-above.ensures.gives call (most - 8) is_call upper.1)))))
    (omega (
      arith,
      lower.0,
      says_size c.new-clauses.result.items
          c.add_order.new.clauses.items slice _ 6
          c.new-clauses.ensures.items c.as_slice-2.ensures.value c.in_ok-add_order.ensures,
    )))
    c.test_clauses.ensures.gives
