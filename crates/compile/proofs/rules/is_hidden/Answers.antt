use Rattle.compile.proofs.Common.{ap, sym, ◌∙◌, clauses_hold}
use Rattle.compile.proofs.Hiding.{clauses_are, hidden_at}
use Rattle.compile.proofs.rules.is_hidden.Goals as goal

pub returns-then-eq : goal.returns-then-eq
returns-then-eq c = λ _ call one other holds.
    hidden_at c.args.rules.now c.loop-rule.rule-index one other call c.rule-item.result c.loop-rule-test.true
    c.rule-item.is (ap (λ cs. clauses_hold cs call) (sym c.as_slice.ensures.value)
    ∙ clauses_are c.as_slice.result.now c.args.clauses.now call (sym c.eq.ensures ∙ c.if-eq.true) ∙ holds)
