use Rattle.std.proofs.Common.{ap, arith, length, rules}
use Rattle.profile_table.proofs.Treated.{default_row, entry_row, item_at}
use Rattle.profile_table.proofs.treating.row.Goals as goal

pub returns-then-is_empty-clause-real : goal.returns-then-is_empty-clause-real
returns-then-is_empty-clause-real c =
    entry_row c.args.calls c.args.profile.now c.args.nr c.loop-place.place c.entry-item.result c.loop-place.is_asked
    c.value.result c.requires
    (item_at _ _ c.loop-place.place c.entry-item.result c.as_slice-entry-items.ensures.value
    c.loop-place-test.true (search rules)) (search rules) (search rules) c.value.ensures
    c.loop-place.invariant.0 c.loop-place.invariant.1

pub loop-place-preserved : goal.loop-place-preserved
loop-place-preserved c = (
  λ not. absurd (cc (not)),
  λ yes. record {
    place = c.loop-place.place;
    entry = c.entry-item.result;
    there = item_at _ _ c.loop-place.place c.entry-item.result c.as_slice-entry-items.ensures.value
        c.loop-place-test.true (search rules);
    before = omega arith;
    named = (search rules);
  },
)

pub returns-clause-real : goal.returns-clause-real
returns-clause-real c =
    default_row c.args.calls c.args.profile.now c.args.nr c.loop-place.place c.loop-place.is_asked c.value-2.result
    c.requires (omega (arith, c.loop-place-test.false, ap length c.as_slice-entry-items.ensures.value)) c.value-2.ensures
    c.loop-place.invariant.0 c.loop-place.invariant.1
