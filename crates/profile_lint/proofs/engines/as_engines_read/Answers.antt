use Rattle.profile_lint.proofs.Near.{kept_fit}
use Rattle.profile_lint.proofs.engines.as_engines_read.Goals as goal

pub with_entries-requires : goal.with_entries-requires
with_entries-requires c =
    kept_fit c.args.profile.now c.new-list.result.items c.add_kept.new.list.items c.add_kept-2.new.list.items
    c.as_slice-entries.result.now c.as_slice-entries.ensures.value c.as_slice-entries.ensures.fit
    c.new-list.ensures.items c.in_ok-add_kept.ensures c.in_ok-add_kept-2.ensures
