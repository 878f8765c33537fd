use Rattle.compile.proofs.Common.{ℕ, ◌+◌, ◌<◌, ap, cond, drop, get_or, List, length, true, arith, IfOk-weaker}
use Rattle.compile.proofs.Common.{Insn, SysCall, GivesAlways, clause_holds, clauses_hold, size_of_clause}
use Rattle.compile.proofs.Common.{size_of_clauses, Clause}
use Rattle.std.proofs.lemmas.List.{drop_all}
use Rattle.compile.proofs.Links.{both_give, clauses_from, no_clause, size_drop, size_from}
use Rattle.compile.proofs.Words.{GivesAlways-more, by_test}
use Rattle.compile.proofs.plain.+test_clauses.Goals as goal

pub returns-then-from-clauses-clause-gives : goal.returns-then-from-clauses-clause-gives
returns-then-from-clauses-clause-gives t c = λ call value most gives.
    let left : List Clause = drop c.args.from c.args.clauses.now in
    GivesAlways-more c.args.code.now call c.args.hit value most (most + size_of_clauses left)
    (by_test c.args.code.now call (clauses_hold left call) true c.args.hit c.args.miss value most
    (ap (λ cs. clauses_hold cs call) (drop_all c.args.from c.args.clauses.now (omega arith))) gives)
    (omega arith)

pub test_clause-requires-clause-miss_near : goal.test_clause-requires-clause-miss_near
test_clause-requires-clause-miss_near t c =
    let inside : c.args.from < length c.args.clauses.now =
    omega (arith, c.requires.from_in, c.if-from-clauses.false) in
    omega (
      arith,
      c.requires.miss_near,
      size_drop c.args.clauses.now c.args.from,
      size_from c.args.clauses.now c.args.from inside,
      c.in_ok-rest.ensures.longer,
    )

pub returns-clause-gives : goal.returns-clause-gives
returns-clause-gives t c =
    let old : List Insn = c.args.code.now in
    let mid : List Insn = c.test_clauses.new.code in
    let new : List Insn = c.test_clause.new.code in
    let clauses : List Clause = c.args.clauses.now in
    let from : ℕ = c.args.from in
    let clause : Clause = get_or clauses from no_clause in
    let rest : ℕ = size_of_clauses (drop (from + 1) clauses) in
    let Given : ℕ → Type 0 = λ at. (call : SysCall) (value most : ℕ)
    → GivesAlways mid call (cond (clause_holds clause call) c.in_ok-rest.rest c.args.miss) value most
    → GivesAlways new call at value (most + size_of_clause clause) in
    let Wanted : ℕ → Type 0 = λ at. (call : SysCall) (value most : ℕ)
    → GivesAlways old call (cond (clauses_hold (drop from clauses) call) c.args.hit c.args.miss) value most
    → GivesAlways new call at value (most + size_of_clauses (drop from clauses)) in
    IfOk-weaker c.test_clause.result Given Wanted (λ at tests call value most gives.
    GivesAlways-more new call at value (most + rest + size_of_clause clause)
    (most + size_of_clauses (drop from clauses))
    (tests call value (most + rest) (both_give old mid call (clause_holds clause call)
    (clauses_hold (drop (from + 1) clauses) call) c.args.hit c.args.miss c.in_ok-rest.rest value most
    (most + rest) c.in_ok-rest.ensures.builds.keeps (omega arith) (c.in_ok-rest.ensures.gives call value most)
    (by_test old call _ _ c.args.hit c.args.miss value most
    (clauses_from clauses from call (omega arith)) gives)))
    (omega (arith, size_from clauses from (omega arith))))
    c.test_clause.ensures.gives
