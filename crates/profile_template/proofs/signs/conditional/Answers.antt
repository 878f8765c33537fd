use Rattle.std.proofs.Common.{◌∙◌}
use Rattle.profile_template.specs.Signs.{is_conditional}
use Rattle.profile_template.proofs.Views.{count_of_views}
use Rattle.profile_template.proofs.signs.conditional.Goals as goal

pub returns : goal.returns
returns c = c.counted.ensures ∙ count_of_views is_conditional c.args.items.now
