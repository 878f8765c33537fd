-- The entries so far are written, and fit.
use Rattle.std.proofs.Common.{◌≡◌, map, take}
use Rattle.std.specs.List.{AllByRecursion}
use Rattle.serde_json.specs.View.{view}
use Rattle.cri_msgs.specs.Fits.{FitsListedStatus}
use Rattle.cri_msgs.specs.Written.{listed_status_tree}
use Rattle.cri_msgs.proofs.reply_writer.status_trees.Given as goal

abbrev pub invariant-loop-listed : goal.invariant-loop-listed
invariant-loop-listed l = (map view l.trees.items ≡ map listed_status_tree (take l.listed-index l.list))
    × AllByRecursion FitsListedStatus (take l.listed-index l.list)
