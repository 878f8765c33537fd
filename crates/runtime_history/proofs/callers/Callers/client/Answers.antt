use Rattle.runtime_history.proofs.Moves.{comes}
use Rattle.runtime_history.proofs.callers.Callers.client.Goals as goal

pub load_new_seat-token-requires : goal.load_new_seat-token-requires
load_new_seat-token-requires g c = (c.notes.ensures.1, comes _ _)
