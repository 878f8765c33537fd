use Rattle.std.proofs.Common.{sym, ◌∙◌}
use Rattle.profile_lint.proofs.Near.{tried_differ}
use Rattle.profile_lint.proofs.entries.differ_on.Goals as goal

pub returns-then-value_on : goal.returns-then-value_on
returns-then-value_on c = tried_differ c.args.profile.now c.in_ok-kept.kept c.in_ok-left_out.left_out
    c.args.place c.args.entry.now c.args.call c.requires c.in_ok-kept.ensures c.in_ok-left_out.ensures
    c.fields_fit.ensures
    (λ same. c.if-value_on.true (c.value_on.ensures ∙ (same ∙ sym c.value_on-2.ensures)))
