-- The entries so far report no exit of the container.
use Rattle.std.proofs.Common.{take}
use Rattle.std.specs.List.{AllByRecursion}
use Rattle.cri_msgs.specs.Tells.{IsSilentOn}
use Rattle.cri_msgs.proofs.tells.exit_listed.Given as goal

abbrev pub invariant-loop-listed : goal.invariant-loop-listed
invariant-loop-listed l = AllByRecursion (IsSilentOn l.fn.container) (take l.listed-index l.list)
