-- What is kept of the findings are the findings that matter.
use Rattle.std.proofs.Common.{rules, ap, ◌∙◌}
use Rattle.std.specs.Prelude.{filter, map}
use Rattle.std.proofs.lemmas.Fn.{filter_same}
use Rattle.profile_lint.specs.Matters.{matters}
use Rattle.profile_lint.specs.Passed.{told}
use Rattle.profile_lint.proofs.Kept.{kept}
use Rattle.profile_lint.proofs.matters.passed_in.Goals as goal

pub returns : goal.returns
returns c = ap (map told) (filter_same _ _ _ (λ x b f' k. search rules) _ _ c.retain.ensures.filtered)
    ∙ kept told (matters c.args.profile.now) _
    ∙ ap (filter (matters c.args.profile.now)) c.in_ok-found.ensures
