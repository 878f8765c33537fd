use Rattle.bpf_machine.proofs.Progress.{Step-unique, Reaches-unique, Runs-unique}
use Rattle.bpf_machine.proofs.laws.runs_are_determined.Goals as goal

pub returns-clause-step : goal.returns-clause-step
returns-clause-step c = Step-unique

pub returns-clause-state : goal.returns-clause-state
returns-clause-state c = Reaches-unique

pub returns-clause-value : goal.returns-clause-value
returns-clause-value c = λ code call value other steps count one two.
    (Runs-unique code call value other steps count one two).0

pub returns-clause-steps : goal.returns-clause-steps
returns-clause-steps c = λ code call value other steps count one two.
    (Runs-unique code call value other steps count one two).1
