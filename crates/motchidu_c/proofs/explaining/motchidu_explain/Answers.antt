use Rattle.std.proofs.Common.{◌∙◌, ap}
use Rattle.motchidu_c.specs.Status.{number_of}
use Rattle.motchidu_c.proofs.explaining.motchidu_explain.Goals as goal

pub returns-clause-accepts : goal.returns-clause-accepts
returns-clause-accepts c p reads enough = c.number.ensures ∙ ap number_of
    (c.explained.ensures.accepts p reads (λ e. enough (c.number.ensures ∙ ap number_of e)))
