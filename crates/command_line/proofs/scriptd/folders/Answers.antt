use Rattle.std.proofs.Common.{ap, codes, ◌∙◌}
use Rattle.std.proofs.lemmas.Result.{IfOk-weaker}
use Rattle.clap.specs.Simple.{App, with_rule}
use Rattle.command_line.specs.Arguments.{option_rule}
use Rattle.command_line.proofs.scriptd.folders.Goals as goal

pub returns : goal.returns
returns c = IfOk-weaker c.with_option-3.result _ _ (λ m h. h
    ∙ ap (λ (a : App). with_rule a (option_rule (codes "calls"))) (c.in_ok-command-2.ensures
    ∙ ap (λ (a : App). with_rule a (option_rule (codes "profiles"))) (c.in_ok-command.ensures)))
    c.with_option-3.ensures
