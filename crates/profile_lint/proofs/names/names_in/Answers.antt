use Rattle.std.proofs.Common.{arith, take, map}
use Rattle.serde_json.specs.View.{view}
use Rattle.profile_lint.specs.Passed.{AreSeen, name_at, names_in}
use Rattle.profile_lint.proofs.Views.{told_on, view_more}
use Rattle.profile_lint.proofs.names.names_in.Goals as goal

pub loop-index-preserved : goal.loop-index-preserved
loop-index-preserved c =
    let before = take c.loop-index.index (map view c.args.names.now) in
    let more = view_more c.args.names.now c.loop-index.index c.index-names-index.result
    (omega (arith, c.loop-index-test.true)) c.index-names-index.is in
    let inv = c.loop-index.invariant in
    let seen : AreSeen c.args.calls before c.as_slice.result.now = rw c.as_slice.ensures.value inv.1 in (
      told_on (name_at c.args.calls c.args.entry (map view c.args.names.now)) c.args.names.now c.loop-index.index
          c.index-names-index.result c.loop-index.found.items c.tell.new.found.items c.name_at.result
          (names_in c.args.calls c.args.entry (map view c.args.names.now)) (omega (arith, c.loop-index-test.true))
          c.index-names-index.is c.in_ok-tell.ensures (c.name_at.ensures before seen) inv.0,
      rw more (c.in_ok-see.ensures before inv.1),
    )
