use Rattle.compile.proofs.Common.{◌≡◌, ◌≢◌, ℕ, ◌+◌, ap, cond, false, true, refl, List, length, arith, ◌||◌}
use Rattle.compile.proofs.Common.{IfOk-weaker, Insn, SysCall, GivesAlways, clause_holds, literal_holds}
use Rattle.compile.proofs.Common.{size_of_clause, size_of_literal, Clause, Literal, Known}
use Rattle.compile.specs.Backward.{IsRecent}
use Rattle.compile.proofs.Links.{either_gives}
use Rattle.compile.proofs.Words.{GivesAlways-more, by_test}
use Rattle.compile.proofs.plain.test_clause.Goals as goal

pub returns-then-is_known-clause-gives : goal.returns-then-is_known-clause-gives
returns-then-is_known-clause-gives c = λ call value most gives.
    let clause : Clause = c.args.clause.now in
    GivesAlways-more c.args.code.now call c.args.hit value most (most + size_of_clause clause)
    (by_test c.args.code.now call (clause_holds clause call) true c.args.hit c.args.miss value most
    (ap (λ b. b || literal_holds clause.other call) (c.if-is_known.ensures.holds refl call)) gives)
    (omega arith)

pub returns-then-is_known-2-clause-gives : goal.returns-then-is_known-2-clause-gives
returns-then-is_known-2-clause-gives c =
    let clause : Clause = c.args.clause.now in
    let old : List Insn = c.args.code.now in
    let new : List Insn = c.test_literal.new.code in
    let Given : ℕ → Type 0 = λ at. (call : SysCall) (value most : ℕ)
    → GivesAlways old call (cond (literal_holds clause.other call) c.args.hit c.args.miss) value most
    → GivesAlways new call at value (most + size_of_literal clause.other) in
    let Wanted : ℕ → Type 0 = λ at. (call : SysCall) (value most : ℕ)
    → GivesAlways old call (cond (clause_holds clause call) c.args.hit c.args.miss) value most
    → GivesAlways new call at value (most + size_of_clause clause) in
    IfOk-weaker c.test_literal.result Given Wanted (λ at tests call value most gives.
    GivesAlways-more new call at value (most + size_of_literal clause.other) (most + size_of_clause clause)
    (tests call value most (by_test old call (clause_holds clause call) (literal_holds clause.other call)
    c.args.hit c.args.miss value most
    (ap (λ b. b || literal_holds clause.other call) (c.if-is_known-2.ensures.holds refl call)) gives))
    (omega arith)) c.test_literal.ensures.gives

pub returns-clause-gives : goal.returns-clause-gives
returns-clause-gives c =
    let clause : Clause = c.args.clause.now in
    let old : List Insn = c.args.code.now in
    let mid : List Insn = c.test_literal-2.new.code in
    let new : List Insn = c.test_literal-3.new.code in
    let other : ℕ = size_of_literal clause.other in
    let one : ℕ = size_of_literal clause.one in
    let Given : ℕ → Type 0 = λ at. (call : SysCall) (value most : ℕ)
    → GivesAlways mid call (cond (literal_holds clause.one call) c.args.hit c.in_ok-rest.rest) value most
    → GivesAlways new call at value (most + one) in
    let Wanted : ℕ → Type 0 = λ at. (call : SysCall) (value most : ℕ)
    → GivesAlways old call (cond (clause_holds clause call) c.args.hit c.args.miss) value most
    → GivesAlways new call at value (most + size_of_clause clause) in
    IfOk-weaker c.test_literal-3.result Given Wanted (λ at tests call value most gives.
    GivesAlways-more new call at value (most + other + one) (most + size_of_clause clause)
    (tests call value (most + other) (either_gives old mid call (literal_holds clause.one call)
    (literal_holds clause.other call) c.args.hit c.args.miss c.in_ok-rest.rest value most (most + other)
    c.in_ok-rest.ensures.builds.keeps (omega arith) (c.in_ok-rest.ensures.gives call value most) gives))
    (omega arith)) c.test_literal-3.ensures.gives

pub returns-clause-recent : goal.returns-clause-recent
returns-clause-recent c =
    let new : List Insn = c.test_literal-3.new.code in
    let one : Literal = c.args.clause.now.one in
    let Front : ℕ → Type 0 = λ at. one ≢ Known false → one ≢ Known true → at + 1 ≡ length new in
    IfOk-weaker c.test_literal-3.result Front (IsRecent new)
    (λ at front. let is = front c.if-is_known-2.ensures.no c.if-is_known.ensures.no in
    (omega (arith, is), omega (arith, is)))
    c.test_literal-3.ensures.front
