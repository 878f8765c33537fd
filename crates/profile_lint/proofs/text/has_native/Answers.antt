use Rattle.std.proofs.Common.{◌∙◌}
use Rattle.profile_lint.specs.Passed.{is_native}
use Rattle.profile_lint.proofs.Views.{any_of_views}
use Rattle.profile_lint.proofs.text.has_native.Goals as goal

pub returns : goal.returns
returns c = c.is_any_native.ensures ∙ any_of_views is_native c.args.names.now
