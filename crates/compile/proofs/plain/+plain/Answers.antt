use Rattle.compile.proofs.Common.{ℕ, ◌+◌, ◌<◌, cond, drop, List, sym, subst, arith, IfOk-weaker, Insn}
use Rattle.compile.proofs.Common.{SysCall, GivesAlways, clauses_hold, first_value, size_of_clauses}
use Rattle.compile.proofs.Common.{size_of_rules, Clause, Rule}
use Rattle.compile.proofs.Links.{picks, sizes_from}
use Rattle.compile.proofs.Restricting.{first_from}
use Rattle.compile.proofs.Words.{GivesAlways-more}
use Rattle.compile.proofs.plain.+plain.Goals as goal

pub returns-clause-gives : goal.returns-clause-gives
returns-clause-gives t c =
    let mid : List Insn = c.value.new.self in
    let new : List Insn = c.test_clauses.new.code in
    let rules : List Rule = c.args.rules.now in
    let from : ℕ = c.args.from in
    let rule : Rule = c.index-rules-from.result in
    let size : ℕ = size_of_clauses rule.clauses.items in
    let Given : ℕ → Type 0 = λ at. (call : SysCall) (value most : ℕ)
    → GivesAlways mid call (cond (clauses_hold c.as_slice.result.now call) c.in_ok-hit.hit c.in_ok-rest.rest)
    value most
    → GivesAlways new call at value (most + size_of_clauses c.as_slice.result.now) in
    let Wanted : ℕ → Type 0 = λ at. (call : SysCall) (other most : ℕ) → 0 < most
    → GivesAlways c.args.code.now call c.args.last other most
    → GivesAlways new call at (first_value (drop from rules) other call)
    (most + size_of_rules (drop from rules)) in
    IfOk-weaker c.test_clauses.result Given Wanted (λ at tests call other most some gives.
    let behind : ℕ = first_value (drop (from + 1) rules) other call in
    let left : ℕ = most + size_of_rules (drop (from + 1) rules) in
    let P : ℕ → Type 0 = λ value. GivesAlways new call at value (most + size_of_rules (drop from rules)) in
    let Q : List Clause → Type 0 = λ cs. GivesAlways new call at
    (cond (clauses_hold cs call) rule.value behind) (left + size_of_clauses cs) in
    subst P (sym (first_from rules from other call rule (omega arith) c.index-rules-from.is))
    (GivesAlways-more new call at _ (left + size) (most + size_of_rules (drop from rules))
    (subst Q c.as_slice.ensures.value (tests call
    (cond (clauses_hold c.as_slice.result.now call) rule.value behind) left
    (picks mid call (clauses_hold c.as_slice.result.now call) c.in_ok-hit.hit c.in_ok-rest.rest rule.value
    behind left
    (GivesAlways-more mid call c.in_ok-hit.hit rule.value 1 left (c.in_ok-hit.ensures.gives call)
    (omega (arith, some)))
    (λ a. c.in_ok-hit.ensures.builds.keeps call c.in_ok-rest.rest a behind left
    (c.in_ok-rest.ensures.gives call other most some gives a)))))
    (omega (arith, sizes_from rules from rule (omega arith) c.index-rules-from.is))))
    c.test_clauses.ensures.gives
