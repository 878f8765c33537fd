use Rattle.cri_frames.proofs.SomeSplit.{bad_head}
use Rattle.cri_frames.proofs.laws.bad_heads_are_as_stated.Goals as goal

pub returns : goal.returns
returns c = bad_head
