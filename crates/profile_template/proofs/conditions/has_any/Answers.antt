use Rattle.std.proofs.Common.{◌∙◌}
use Rattle.profile_template.specs.Settings.{has_cap}
use Rattle.profile_template.proofs.Views.{any_of_views}
use Rattle.profile_template.proofs.conditions.has_any.Goals as goal

pub returns : goal.returns
returns c = c.has_one.ensures ∙ any_of_views (has_cap c.args.settings.now) c.args.caps.now
