-- What was listed, followed by what is to be listed from this place on, is all of it.
use Rattle.std.proofs.Common.{◌≡◌, ◌++◌, drop}
use Rattle.std.specs.Prelude.{filter_map}
use Rattle.std.specs.List.{enumerate_from}
use Rattle.explain.specs.Explained.{told}
use Rattle.explain.proofs.explainer.passed_over.Given as goal

abbrev pub invariant-loop-place : goal.invariant-loop-place
invariant-loop-place l = l.passed.items
    ++ filter_map (told l.call) (enumerate_from l.place (drop l.place l.entries))
    ≡ filter_map (told l.call) (enumerate_from 0 l.entries)
