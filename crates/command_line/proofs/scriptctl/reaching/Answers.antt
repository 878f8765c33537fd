use Rattle.std.proofs.Common.{ap, codes, ◌∙◌}
use Rattle.std.proofs.lemmas.Result.{IfOk-weaker}
use Rattle.clap.specs.Simple.{App, with_rule}
use Rattle.command_line.specs.Arguments.{flag_rule}
use Rattle.command_line.proofs.scriptctl.reaching.Goals as goal

pub returns : goal.returns
returns c = IfOk-weaker c.with_flag.result _ _ (λ m h. h
    ∙ ap (λ (a : App). with_rule a (flag_rule (codes "json"))) (c.in_ok-command.ensures))
    c.with_flag.ensures
