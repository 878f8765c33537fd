-- The entries so far are copied.
use Rattle.std.proofs.Common.{◌≡◌, take}
use Rattle.cri_msgs.proofs.lists.listed_copies.Given as goal

abbrev pub invariant-loop-listed : goal.invariant-loop-listed
invariant-loop-listed l = l.copies.items ≡ take l.listed-index l.list
