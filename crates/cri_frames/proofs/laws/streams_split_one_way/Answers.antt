use Rattle.std.proofs.Common.{◌+◌, ◌∙◌, length, sym, arith}
use Rattle.cri_frames.proofs.OneSplit.{one_split}
use Rattle.cri_frames.proofs.SomeSplit.{some_split}
use Rattle.cri_frames.proofs.laws.streams_split_one_way.Goals as goal

pub returns-clause-some : goal.returns-clause-some
returns-clause-some c = λ stream fits. some_split (length stream + 1) stream (omega arith) fits

pub returns-clause-only : goal.returns-clause-only
returns-clause-only c = λ stream frames others rest other one two.
    one_split frames others rest other (sym one.whole ∙ two.whole) one.each two.each one.begins_none
    two.begins_none
