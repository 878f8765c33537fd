use Rattle.std.proofs.Common.{ap, ◌∙◌}
use Rattle.profile_report.proofs.Pages.{is_page}
use Rattle.profile_report.specs.Page.{upper_part}
use Rattle.profile_report.proofs.document.page.Goals as goal

pub returns : goal.returns
returns c =
    is_page c.with_lower_part.result c.args.style.now c.args.report.now c.args.parts.now c.in_ok-rows.rows.items
    c.as_str.result.now c.in_ok-rows.ensures.each c.in_ok-rows.ensures.real
    (c.as_str.ensures.value ∙ (c.in_ok-upper.ensures
    ∙ ap (λ rows. upper_part c.args.style.now c.args.report.now rows c.args.parts.now) c.as_slice.ensures.value))
    c.with_lower_part.ensures
