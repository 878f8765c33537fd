-- The value owns nothing, so it may go to another thread.
use denote.Param.Send.{IsSend, owning_send}
use Rattle.node_lock.specs.contracts.whole.Whole.{the_row, the_type}

pub send : IsSend the_row
send = owning_send the_type tt (λ _. tt) (λ _ _ _. tt)
