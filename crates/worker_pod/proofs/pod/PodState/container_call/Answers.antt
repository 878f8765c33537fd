use Rattle.worker_pod.proofs.pod.PodState.container_call.Goals as goal

pub returns-clause-none : goal.returns-clause-none
returns-clause-none c =
    λ e. c.call_by.ensures.none (rw (c.chosen-chosen.ensures, c.as_slice.ensures.value)
    (rw (← c.self.view_is) at e))
