-- The conditions that were read are a list that an entry may have.
use Rattle.std.proofs.Common.{map, arith}
use Rattle.serde_json.specs.View.{view}
use Rattle.json_tree.proofs.After.{after_ends}
use Rattle.oci_profile.specs.Reading.{cond_at}
use Rattle.oci_profile.proofs.Found.{conds_fit}
use Rattle.oci_profile.proofs.args.each_cond.Goals as goal

pub new-requires : goal.new-requires
new-requires c =
    conds_fit (map view c.args.items.now) c.loop-item.conds.items
    (after_ends cond_at view c.args.items.now c.loop-item.item-index c.loop-item.conds.items _
    (omega arith) c.loop-item.invariant)
