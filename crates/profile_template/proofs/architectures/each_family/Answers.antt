use Rattle.std.proofs.Common.{◌≡◌, Err, length, rules, sym, subst}
use Rattle.std.proofs.lemmas.Result.{err_from_is_err_and}
use Rattle.serde_json.specs.View.{view}
use Rattle.json_tree.proofs.After.{after_stops}
use Rattle.json_place.specs.Parts.{Item}
use Rattle.profile_template.specs.Faults.{under}
use Rattle.profile_template.specs.Reading.{family_at, family_of}
use Rattle.profile_template.proofs.Stops.{at_fault}
use Rattle.profile_template.proofs.architectures.each_family.Goals as goal

pub returns-in_err-family : goal.returns-in_err-family
returns-in_err-family c =
    let p = err_from_is_err_and c.from_residual.result c.from_residual.ensures.1 in
    let found = c.in_err-family.field-0.0 in
    let place : c.len-index.result ≡ length c.loop-item.families.items = search rules in
    rw (p.1, p.2) (λ not_memory.
    after_stops (family_at) view c.args.items.now c.loop-item.item-index c.item-item.result
    c.loop-item.families.items found _ c.loop-item-test.true c.item-item.is c.loop-item.invariant
    (subst (λ index. under (Item index) (family_of (view c.item-item.result)) ≡ Err found) place
    (at_fault (Item c.len-index.result) (λ t. t) c.family.result (family_of (view c.item-item.result)) found
    c.family.ensures (sym c.in_err-family.ensures) not_memory)))
