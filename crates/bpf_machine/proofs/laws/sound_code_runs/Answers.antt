use Rattle.bpf_machine.proofs.Progress.{progress, run_exists, stay_of, steps_bounded}
use Rattle.bpf_machine.proofs.laws.sound_code_runs.Goals as goal

pub returns-clause-run : goal.returns-clause-run
returns-clause-run c = λ code call sound.
    run_exists code call sound (stay_of code c.walks_stay_inside.ensures.forward
    c.walks_stay_inside.ensures.inside sound)

pub returns-clause-bounded : goal.returns-clause-bounded
returns-clause-bounded c = λ code call value steps sound run.
    steps_bounded code call value steps (stay_of code c.walks_stay_inside.ensures.forward
    c.walks_stay_inside.ensures.inside sound) run

pub returns-clause-never_stuck : goal.returns-clause-never_stuck
returns-clause-never_stuck c = λ code call sound n s reached.
    progress code call n s sound (stay_of code c.walks_stay_inside.ensures.forward
    c.walks_stay_inside.ensures.inside sound) reached
