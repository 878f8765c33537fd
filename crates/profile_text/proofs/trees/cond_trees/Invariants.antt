-- The conditions so far are written.
use Rattle.std.proofs.Common.{◌≡◌, map, take}
use Rattle.serde_json.specs.View.{view}
use Rattle.profile_text.specs.Written.{cond_tree}
use Rattle.profile_text.proofs.trees.cond_trees.Given as goal

abbrev pub invariant-loop-cond : goal.invariant-loop-cond
invariant-loop-cond l = map view l.trees.items ≡ map cond_tree (take l.cond-index l.conds)
