use Rattle.compile.proofs.Common.{◌≡◌, ℕ, ◌∷◌, [], List, ◌+◌, ◌∙◌, cond, drop, sym, ap, false, true, rules, SysCall}
use Rattle.compile.proofs.Common.{Rule, atom_holds, clauses_hold, first_value, length}
use Rattle.compile.proofs.Restricting.{first_append, first_from, left_some, none_hold}
use Rattle.compile.proofs.clause.rules_where.Goals.{in-Some+in_ok-push+else-is_last, in_default}
use Rattle.compile.proofs.clause.rules_where.Goals as goal

pub loop-rule-preserved : goal.loop-rule-preserved
loop-rule-preserved c = λ call other holds.
    let old : List Rule = c.loop-rule.left.items in
    let rule : Rule = c.rule-item.result in
    let behind : ℕ = first_value (drop (c.loop-rule.rule-index + 1) c.args.rules.now) other call in
    let same : clauses_hold c.as_slice.result.now call ≡ clauses_hold rule.clauses.items call =
    ap (λ cs. clauses_hold cs call) c.as_slice.ensures.value in
    let added : first_value c.match-branch-2.left.items behind call
    ≡ first_value old (cond (clauses_hold rule.clauses.items call) rule.value behind) call =
    elim c.match-branch-2.branch [
      | in-Some+in_ok-push+else-is_last w ↦
          let left : Rule = record { clauses = w.in-Some.clauses; value = rule.value } in
          ap (λ v. first_value v.items behind call) w.left-is
          ∙ ap (λ rs. first_value rs behind call) w.in_ok-push.ensures.items
          ∙ first_append old (left ∷ []) behind call
          ∙ ap (λ h. first_value old (cond h rule.value behind) call)
          (left_some c.in_ok-clauses.field-0 w.in-Some.clauses
          (λ some. (at : SysCall) → atom_holds c.args.given.now at ≡ c.args.answer
          → clauses_hold some.items at ≡ clauses_hold c.as_slice.result.now at)
          w.in-Some.is c.in_ok-clauses.ensures.some call holds ∙ same)
      | in_default w ↦
          let fails : clauses_hold c.as_slice.result.now call ≡ false = search rules in
          ap (λ v. first_value v.items behind call) w.left-is
          ∙ ap (λ h. first_value old (cond h rule.value behind) call) (sym (sym same ∙ fails))
    ] in
    added
    ∙ ap (λ n. first_value old n call) (sym (first_from c.args.rules.now c.loop-rule.rule-index other call
    rule c.loop-rule-test.true c.rule-item.is))
    ∙ c.loop-rule.invariant call other holds

-- a rule that always holds hides those after it
pub returns-then-is_last : goal.returns-then-is_last
returns-then-is_last c = λ call other holds.
    let old : List Rule = c.loop-rule.left.items in
    let rule : Rule = c.rule-item.result in
    let left : Rule = record { clauses = c.in-Some.clauses; value = rule.value } in
    let behind : ℕ = first_value (drop (c.loop-rule.rule-index + 1) c.args.rules.now) other call in
    let none : length c.in-Some.clauses.items ≡ 0 = search rules in
    let always : clauses_hold c.in-Some.clauses.items call ≡ true =
    none_hold c.in-Some.clauses.items call none in
    let same : clauses_hold c.as_slice.result.now call ≡ clauses_hold rule.clauses.items call =
    ap (λ cs. clauses_hold cs call) c.as_slice.ensures.value in
    let kept : clauses_hold c.in-Some.clauses.items call ≡ clauses_hold rule.clauses.items call =
    left_some c.in_ok-clauses.field-0 c.in-Some.clauses
    (λ some. (at : SysCall) → atom_holds c.args.given.now at ≡ c.args.answer
    → clauses_hold some.items at ≡ clauses_hold c.as_slice.result.now at)
    c.in-Some.is c.in_ok-clauses.ensures.some call holds ∙ same in
    ap (λ rs. first_value rs other call) c.in_ok-push.ensures.items
    ∙ first_append old (left ∷ []) other call
    ∙ ap (λ h. first_value old (cond h rule.value other) call) always
    ∙ ap (λ h. first_value old (cond h rule.value behind) call) (sym (sym kept ∙ always))
    ∙ ap (λ n. first_value old n call) (sym (first_from c.args.rules.now c.loop-rule.rule-index other call
    rule c.loop-rule-test.true c.rule-item.is))
    ∙ c.loop-rule.invariant call other holds
