use Rattle.std.proofs.Common.{ap, codes, ◌∙◌}
use Rattle.std.proofs.lemmas.Result.{IfOk-weaker}
use Rattle.clap.specs.Simple.{App, with_rule}
use Rattle.command_line.specs.Arguments.{words_rule}
use Rattle.command_line.proofs.scriptctl.asking.Goals as goal

pub returns : goal.returns
returns c = IfOk-weaker c.with_words.result _ _ (λ m h. h
    ∙ ap (λ (a : App). with_rule a (words_rule (codes "COMMAND"))) (c.in_ok-command.ensures))
    c.with_words.ensures
