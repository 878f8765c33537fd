use Rattle.std.proofs.Common.{sym, ◌∙◌}
use Rattle.seccheck_differences.proofs.telling.decider.Goals as goal

pub returns : goal.returns
returns c = record {
  decision = c.in_ok-explanation.explanation.decision;
  decides = c.in_ok-explanation.ensures.decides;
  value_is = c.in_ok-explanation.ensures.means
      ∙ sym (c.args.compiled.now.means c.args.call.now c.args.value c.fields_fit.ensures c.requires);
}
