use Rattle.motchidu_c.proofs.explaining_name.named.Goals as goal

pub returns-in-Some-clause-accepts : goal.returns-in-Some-clause-accepts
returns-in-Some-clause-accepts c nr p is reads enough = c.explained.ensures.accepts p reads enough
