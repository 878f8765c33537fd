use Rattle.std.proofs.Common.{◌∙◌}
use Rattle.std.proofs.lemmas.List.{take_all}
use Rattle.cri_msgs.proofs.lists.listed_copies.Goals as goal

pub returns : goal.returns
returns c = c.loop-listed.invariant ∙ take_all c.loop-listed.listed-index c.args.list.now
    c.loop-listed-test.false
