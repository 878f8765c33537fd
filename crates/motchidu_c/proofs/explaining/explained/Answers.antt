use Rattle.motchidu_c.proofs.explaining.explained.Goals as goal

pub returns-in-Err-clause-accepts : goal.returns-in-Err-clause-accepts
returns-in-Err-clause-accepts c p reads enough =
    let never = c.in-Err.ensures.accepts p reads (λ e. enough (cc)) in
    absurd cc
