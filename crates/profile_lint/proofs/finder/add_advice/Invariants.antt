-- The findings so far, followed by the rest of the advice, are all of them.
use Rattle.std.proofs.Common.{◌≡◌, ◌++◌, drop, map}
use Rattle.profile_lint.specs.declared.finding.Finding.TheVariants.{Advised}
use Rattle.profile_lint.proofs.finder.add_advice.Given as goal

abbrev pub invariant-loop-one : goal.invariant-loop-one
invariant-loop-one l = l.found.items ++ map (λ one. Advised one) (drop l.one-index l.advice)
    ≡ l.initial.found.items ++ map (λ one. Advised one) l.advice
