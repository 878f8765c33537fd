use Rattle.std.proofs.Common.{◌≡◌, Err, length, rules, sym, subst}
use Rattle.std.proofs.lemmas.Result.{err_from_is_err_and}
use Rattle.serde_json.specs.View.{view}
use Rattle.json_tree.proofs.After.{after_stops}
use Rattle.json_place.specs.Parts.{Item}
use Rattle.profile_template.specs.Faults.{under}
use Rattle.profile_template.specs.Reading.{entry_at, entry_of}
use Rattle.profile_template.proofs.Stops.{at_fault}
use Rattle.profile_template.proofs.reader.each_entry.Goals as goal

pub returns-in_err-entry : goal.returns-in_err-entry
returns-in_err-entry c =
    let p = err_from_is_err_and c.from_residual.result c.from_residual.ensures.1 in
    let found = c.in_err-entry.field-0.0 in
    let place : c.len-index.result ≡ length c.loop-item.entries.items = search rules in
    rw (p.1, p.2) (λ not_memory.
    after_stops (entry_at c.args.settings.now) view c.args.items.now c.loop-item.item-index c.item-item.result
    c.loop-item.entries.items found _ c.loop-item-test.true c.item-item.is c.loop-item.invariant
    (subst (λ index. under (Item index) (entry_of c.args.settings.now (view c.item-item.result)) ≡ Err found)
    place
    (at_fault (Item c.len-index.result) (λ e. e) c.entry.result
    (entry_of c.args.settings.now (view c.item-item.result)) found c.entry.ensures
    (sym c.in_err-entry.ensures) not_memory)))
