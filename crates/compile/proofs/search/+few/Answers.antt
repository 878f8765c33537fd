use Rattle.compile.proofs.Common.{◌≡◌, ℕ, ◌+◌, ◌*◌, ◌==◌, false, cond, refl, sym, ap, ◌∙◌, List, subst, arith}
use Rattle.compile.proofs.Common.{length, get_or, slice_index, IfOk-weaker, Insn, SysCall, IsCall}
use Rattle.compile.proofs.Common.{GivesAlways, clauses_hold, size_of_clauses, value_for, Clause, Point}
use Rattle.compile.proofs.Finding.{empty_for, first_for, no_point}
use Rattle.compile.proofs.Links.{picks}
use Rattle.compile.proofs.Saying.{says_is, says_size}
use Rattle.compile.proofs.Words.{GivesAlways-more}
use Rattle.compile.proofs.search.+few.Goals as goal

pub returns-then-is_empty-clause-gives : goal.returns-then-is_empty-clause-gives
returns-then-is_empty-clause-gives t c =
    let points : List Point = c.args.points.now in
    let new : List Insn = c.value.new.self in
    let other : ℕ = c.args.other in
    let Given : ℕ → Type 0 = λ at. (call : SysCall) → GivesAlways new call at other 1 in
    let Wanted : ℕ → Type 0 = λ at. (call : SysCall) → IsCall call
    → GivesAlways new call at (value_for points (slice_index call.args c.args.index) other)
    (1 + 4 * length points) in
    IfOk-weaker c.value.result Given Wanted (λ at gives call is_call.
    let P : ℕ → Type 0 = λ v. GivesAlways new call at v (1 + 4 * length points) in
    subst P (empty_for points (slice_index call.args c.args.index) other c.if-is_empty.ensures)
    (GivesAlways-more new call at other 1 (1 + 4 * length points) (gives call) (omega arith)))
    c.value.ensures.gives

pub returns-then-is_void-clause-gives : goal.returns-then-is_void-clause-gives
returns-then-is_void-clause-gives t c = λ call is_call.
    let points : List Point = c.args.points.now in
    let later : List Point = c.split_at.result.1.now in
    let first : Point = get_or c.split_at.result.0.now 0 no_point in
    let arg : ℕ = slice_index call.args c.args.index in
    let behind : ℕ = value_for later arg c.args.other in
    let never : (arg == first.number) ≡ false =
    sym (says_is c.new-clauses.result.items
    c.add_equal.new.clauses.items c.as_slice.result.now _ 4 call
    c.new-clauses.ensures.items c.as_slice.ensures.value c.in_ok-add_equal.ensures is_call)
    ∙ c.if-is_void.ensures.yes refl call in
    let same : behind ≡ value_for points arg c.args.other =
    ap (λ b. cond b first.value behind) (sym never)
    ∙ first_for points c.split_at.result.0.now later arg c.args.other no_point
    c.if-is_empty.ensures c.split_at.ensures.front c.split_at.ensures.back in
    let P : ℕ → Type 0 = λ v. GivesAlways c.few.new.code call c.in_ok-rest.rest v (1 + 4 * length points) in
    subst P same (GivesAlways-more c.few.new.code call c.in_ok-rest.rest behind (1 + 4 * length later)
    (1 + 4 * length points) (c.in_ok-rest.ensures.gives call is_call)
    (omega (arith, c.split_at.ensures.back_len)))

pub returns-clause-gives : goal.returns-clause-gives
returns-clause-gives t c =
    let points : List Point = c.args.points.now in
    let later : List Point = c.split_at.result.1.now in
    let first : Point = get_or c.split_at.result.0.now 0 no_point in
    let mid : List Insn = c.value-2.new.self in
    let new : List Insn = c.test_clauses.new.code in
    let slice : List Clause = c.as_slice-2.result.now in
    let left : ℕ = 1 + 4 * length later in
    let Given : ℕ → Type 0 = λ at. (call : SysCall) (value most : ℕ)
    → GivesAlways mid call (cond (clauses_hold slice call) c.in_ok-hit.hit c.in_ok-rest.rest) value most
    → GivesAlways new call at value (most + size_of_clauses slice) in
    let Wanted : ℕ → Type 0 = λ at. (call : SysCall) → IsCall call
    → GivesAlways new call at (value_for points (slice_index call.args c.args.index) c.args.other)
    (1 + 4 * length points) in
    IfOk-weaker c.test_clauses.result Given Wanted (λ at tests call is_call.
    let arg : ℕ = slice_index call.args c.args.index in
    let behind : ℕ = value_for later arg c.args.other in
    let same : cond (clauses_hold slice call) first.value behind ≡ value_for points arg c.args.other =
    ap (λ b. cond b first.value behind) (says_is c.new-clauses.result.items
    c.add_equal.new.clauses.items slice _ 4 call
    c.new-clauses.ensures.items c.as_slice-2.ensures.value c.in_ok-add_equal.ensures is_call)
    ∙ first_for points c.split_at.result.0.now later arg c.args.other no_point
    c.if-is_empty.ensures c.split_at.ensures.front c.split_at.ensures.back in
    let P : ℕ → Type 0 = λ v. GivesAlways new call at v (1 + 4 * length points) in
    subst P same (GivesAlways-more new call at _ (left + size_of_clauses slice) (1 + 4 * length points)
    (tests call _ left (picks mid call (clauses_hold slice call) c.in_ok-hit.hit c.in_ok-rest.rest first.value
    behind left (GivesAlways-more mid call c.in_ok-hit.hit first.value 1 left
    (c.in_ok-hit.ensures.gives call) (omega arith))
    (λ a. c.in_ok-hit.ensures.builds.keeps call c.in_ok-rest.rest a behind left
    (c.in_ok-rest.ensures.gives call is_call a))))
    (omega (
      arith,
      c.split_at.ensures.back_len,
      says_size c.new-clauses.result.items
          c.add_equal.new.clauses.items slice _ 4
          c.new-clauses.ensures.items c.as_slice-2.ensures.value c.in_ok-add_equal.ensures,
    ))))
    c.test_clauses.ensures.gives
