use Rattle.std.proofs.Common.{◌≡◌, get_or, drop-cons, arith, subst, sym}
use Rattle.std.proofs.lemmas.Grind.{common_steps}
use Rattle.oci_profile.specs.Entries.{AreEntries}
use Rattle.profile_learn.proofs.Fits.{entry_pushed}
use Rattle.profile_learn.proofs.learner.with_copies.Goals as goal

pub loop-entry-preserved : goal.loop-entry-preserved
loop-entry-preserved c =
    let entry = c.in_ok-copied.field-0 in
    let copied : entry ≡ get_or c.args.base.now c.loop-entry.entry-index entry = grind (
      arith,
      common_steps,
      c.in_ok-copied.ensures,
      c.entry-item.is,
    ) in
    record {
      items = grind (
        arith,
        common_steps,
        c.in_ok-push.ensures.items,
        c.loop-entry.invariant.items,
        copied,
        drop-cons c.args.base.now c.loop-entry.entry-index entry,
      );
      fit = subst AreEntries (sym c.in_ok-push.ensures.items)
          (entry_pushed c.loop-entry.entries.items c.args.base.now c.loop-entry.entry-index entry
          c.loop-entry.invariant.fit c.requires.base c.loop-entry-test.true copied);
    }
