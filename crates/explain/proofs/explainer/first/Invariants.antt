-- No entry before this one applies.
use Rattle.std.proofs.Common.{◌≡◌, ℕ, ◌<◌, Some, false}
use Rattle.std.specs.Prelude.{slice_get}
use Rattle.oci_profile.specs.declared.profile.Entry.{Entry}
use Rattle.explain.specs.Explained.{applies}
use Rattle.explain.proofs.explainer.first.Given as goal

abbrev pub invariant-loop-place : goal.invariant-loop-place
invariant-loop-place l = (k : ℕ) (other : Entry) → k < l.place → slice_get l.entries k ≡ Some other
    → applies l.call other ≡ false
