use Rattle.cri_msgs.proofs.replies.Answer.exit_told.Goals as goal

pub returns-in-ContainerStatuses-clause-silent : goal.returns-in-ContainerStatuses-clause-silent
returns-in-ContainerStatuses-clause-silent c =
    rw (c.in-Statuses.is, c.in-ContainerStatuses.is) c.exit_among.ensures.silent
