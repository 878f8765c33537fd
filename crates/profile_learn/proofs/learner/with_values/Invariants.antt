-- The entries so far, and those of the values from this one on, are all.
use Rattle.std.proofs.Common.{◌≡◌, ◌++◌, drop, map}
use Rattle.oci_profile.specs.Entries.{AreEntries}
use Rattle.profile_learn.specs.Entries.{value_entries, value_entry}
use Rattle.profile_learn.proofs.learner.with_values.Given as goal

abbrev pub invariant-loop-value : goal.invariant-loop-value
invariant-loop-value l = record {
  items : l.entries.items ++ map (value_entry l.number l.index) (drop l.value-index l.value-items)
      ≡ l.fn.entries.items ++ value_entries l.number l.index l.fn.values;
  fit : AreEntries l.entries.items;
}
