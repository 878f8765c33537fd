-- The entries from this one on decide what all of them do.
use Rattle.std.proofs.Common.{◌≡◌, drop}
use Rattle.oci_profile.specs.Meaning.{decision_of}
use Rattle.oci_profile.proofs.meaning.decision.Given as goal

abbrev pub invariant-loop-entry : goal.invariant-loop-entry
invariant-loop-entry l = decision_of (drop l.entry-index l.entries) l.default l.call.nr l.call
    ≡ decision_of l.entries l.default l.call.nr l.call
