-- The first that fails from here on is the first of all.
use Rattle.std.proofs.Common.{◌≡◌, drop, not}
use Rattle.std.specs.Prelude.{find}
use Rattle.oci_profile.specs.Meaning.{holds_on}
use Rattle.explain.specs.Explained.{first_failing}
use Rattle.explain.proofs.conditions.first_failing.Given as goal

abbrev pub invariant-loop-cond : goal.invariant-loop-cond
invariant-loop-cond l = find (λ cond. not (holds_on cond l.call)) (drop l.cond-index l.cond-items)
    ≡ first_failing l.call l.entry
