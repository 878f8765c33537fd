-- The entries so far, and those from this one on, are all.
use Rattle.std.proofs.Common.{◌≡◌, ◌++◌, drop}
use Rattle.oci_profile.specs.Entries.{AreEntries}
use Rattle.profile_learn.proofs.learner.with_copies.Given as goal

abbrev pub invariant-loop-entry : goal.invariant-loop-entry
invariant-loop-entry l = record {
  items : l.entries.items ++ drop l.entry-index l.base ≡ l.fn.entries.items ++ l.base;
  fit : AreEntries l.entries.items;
}
