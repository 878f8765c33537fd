use Rattle.std.proofs.Common.{◌∙◌}
use Rattle.profile_template.specs.Settings.{is_word}
use Rattle.profile_template.proofs.Views.{any_of_views}
use Rattle.profile_template.proofs.conditions.is_listed.Goals as goal

pub returns : goal.returns
returns c = c.has_word.ensures ∙ any_of_views (is_word c.args.settings.now.arch.now) c.args.arches.now
