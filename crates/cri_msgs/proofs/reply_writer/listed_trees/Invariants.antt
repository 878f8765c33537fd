-- The entries so far are written, and fit.
use Rattle.std.proofs.Common.{◌≡◌, map, take}
use Rattle.std.specs.List.{AllByRecursion}
use Rattle.serde_json.specs.View.{view}
use Rattle.cri_msgs.specs.Fits.{FitsListed}
use Rattle.cri_msgs.specs.Written.{listed_tree}
use Rattle.cri_msgs.proofs.reply_writer.listed_trees.Given as goal

abbrev pub invariant-loop-listed : goal.invariant-loop-listed
invariant-loop-listed l = (map view l.trees.items ≡ map listed_tree (take l.listed-index l.list))
    × AllByRecursion FitsListed (take l.listed-index l.list)
