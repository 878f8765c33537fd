use Rattle.compile.proofs.Common.{sym, ◌∙◌}
use Rattle.compile.proofs.Gathering.{none_found, one_found}
use Rattle.compile.proofs.search.points_for.Goals.{then-names+in-Some+in_ok-add-in-Some, else-names}
use Rattle.compile.proofs.search.points_for.Goals as goal

pub loop-entry-preserved : goal.loop-entry-preserved
loop-entry-preserved c =
    elim c.if-names.branch [
      | then-names+in-Some+in_ok-add-in-Some w ↦
          rw (w.points-is, w.count-is)
          (one_found c.args.entries.now c.args.nr c.asked-index.result c.loop-entry.entry-index
          c.loop-entry.count c.entry-item.result w.in-Some.number w.value.result c.loop-entry.points.items _
          c.loop-entry-test.true c.entry-item.is (sym c.names.ensures ∙ w.if-names.true)
          w.in-Some.ensures.index_in w.in-Some.ensures.one w.in-Some.ensures.same w.value.ensures
          w.in_ok-add-in-Some.ensures.rising w.in_ok-add-in-Some.ensures.longer
          w.in_ok-add-in-Some.ensures.same c.loop-entry.invariant)
      | else-names w ↦
          rw (w.points-is, w.count-is)
          (none_found c.args.entries.now c.args.nr c.asked-index.result c.loop-entry.entry-index
          c.loop-entry.count c.entry-item.result c.loop-entry.points.items c.loop-entry-test.true
          c.entry-item.is (sym c.names.ensures ∙ w.if-names.false) c.loop-entry.invariant)
    ]
