use Rattle.compile.proofs.Common.{◌≡◌, ℕ, ◌∷◌, ◌&&◌, [], List, ap, sym, ◌∙◌, cond, length, arith, true, false}
use Rattle.compile.proofs.Common.{refl, value_of, all_hold, names, Rule, clauses_hold, first_value}
use Rattle.compile.proofs.Common.{size_of_rules}
use Rattle.compile.proofs.Hiding.{hidden_adds}
use Rattle.compile.proofs.Restricting.{first_append}
use Rattle.compile.proofs.Saying.{entry_says, size_of_pushed}
use Rattle.compile.proofs.rules.add_named.Goals as goal

pub returns-then-is_void-clause-holds : goal.returns-then-is_void-clause-holds
returns-then-is_void-clause-holds c = λ call other is_call.
    let never : all_hold c.args.entry.now call ≡ false =
    sym (entry_says c.args.entry.now c.as_slice.result.now c.in_ok-clauses.clauses.items _ call
    c.as_slice.ensures.value c.in_ok-clauses.ensures is_call)
    ∙ ap (λ cs. clauses_hold cs call) (sym c.as_slice-2.ensures.value) ∙ c.if-is_void.ensures.yes refl call in
    let named : names c.args.entry.now c.args.nr ≡ true = sym c.names.ensures ∙ c.if-not-names.false in
    ap (λ b. first_value c.args.rules.now.items (cond b (value_of c.args.entry.now.decision) other) call)
    (sym (ap (λ b. b && all_hold c.args.entry.now call) named ∙ never))

pub returns-then-is_hidden-clause-holds : goal.returns-then-is_hidden-clause-holds
returns-then-is_hidden-clause-holds c = λ call other is_call.
    let old : List Rule = c.args.rules.now.items in
    let value : ℕ = value_of c.args.entry.now.decision in
    let named : names c.args.entry.now c.args.nr ≡ true = sym c.names.ensures ∙ c.if-not-names.false in
    let said = ap (λ cs. clauses_hold cs call) c.as_slice-4.ensures.value
    ∙ entry_says c.args.entry.now c.as_slice.result.now c.in_ok-clauses.clauses.items _ call
    c.as_slice.ensures.value c.in_ok-clauses.ensures is_call in
    ap (λ rs. first_value rs other call) (sym c.as_slice-3.ensures.value)
    ∙ hidden_adds c.as_slice-3.result.now value other call (clauses_hold c.as_slice-4.result.now call)
    (λ holds one another. c.is_hidden.ensures c.if-is_hidden.true call one another holds)
    ∙ ap (λ rs. first_value rs (cond (clauses_hold c.as_slice-4.result.now call) value other) call)
    c.as_slice-3.ensures.value
    ∙ ap (λ b. first_value old (cond b value other) call) said
    ∙ ap (λ b. first_value old (cond (b && all_hold c.args.entry.now call) value other) call) (sym named)

pub returns-clause-holds : goal.returns-clause-holds
returns-clause-holds c = λ call other is_call.
    let rule : Rule = record { clauses = c.in_ok-clauses.clauses; value = c.value.result } in
    let old : List Rule = c.args.rules.now.items in
    let named : names c.args.entry.now c.args.nr ≡ true = sym c.names.ensures ∙ c.if-not-names.false in
    ap (λ rs. first_value rs other call) c.in_ok-push.ensures.items
    ∙ first_append old (rule ∷ []) other call
    ∙ ap (λ b. first_value old (cond b c.value.result other) call)
    (entry_says c.args.entry.now c.as_slice.result.now c.in_ok-clauses.clauses.items _ call
    c.as_slice.ensures.value c.in_ok-clauses.ensures is_call)
    ∙ ap (λ n. first_value old (cond (all_hold c.args.entry.now call) n other) call) c.value.ensures
    ∙ ap (λ b. first_value old (cond (b && all_hold c.args.entry.now call)
    (value_of c.args.entry.now.decision) other) call) (sym named)

pub returns-clause-size : goal.returns-clause-size
returns-clause-size c =
    let rule : Rule = record { clauses = c.in_ok-clauses.clauses; value = c.value.result } in
    let old : List Rule = c.args.rules.now.items in
    let named : names c.args.entry.now c.args.nr ≡ true = sym c.names.ensures ∙ c.if-not-names.false in
    omega (
      arith,
      ap size_of_rules c.in_ok-push.ensures.items,
      size_of_pushed old rule,
      c.in_ok-clauses.ensures.longer,
      ap length c.as_slice.ensures.value,
      ap (λ b. cond b (length c.args.entry.now.conds) 0) named,
    )
