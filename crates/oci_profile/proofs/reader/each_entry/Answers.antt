-- Each entry that was read is fit.
use Rattle.std.proofs.Common.{map, arith}
use Rattle.serde_json.specs.View.{view}
use Rattle.json_tree.proofs.After.{after_ends}
use Rattle.oci_profile.specs.Reading.{entry_at}
use Rattle.oci_profile.proofs.Fits.{entries_fit}
use Rattle.oci_profile.proofs.reader.each_entry.Goals as goal

pub new-requires : goal.new-requires
new-requires c =
    entries_fit c.args.calls (c.names_and_numbers_agree.ensures.in_table c.args.calls) c.args.default.now
    (map view c.args.items.now) c.loop-item.entries.items
    (after_ends (entry_at c.args.calls c.args.default.now) view c.args.items.now c.loop-item.item-index
    c.loop-item.entries.items _ (omega arith) c.loop-item.invariant)
