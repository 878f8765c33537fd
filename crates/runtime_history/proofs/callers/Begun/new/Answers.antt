use Rattle.std.proofs.Common.{◌∷◌, [], sym, ap, ◌∙◌, subst, arith}
use Rattle.registry.specs.declared.registry.Registry.{Registry}
use Rattle.registry.specs.Runtime.{Runtime, empty}
use Rattle.registry.specs.Stands.{stages_in}
use Rattle.runtime_history.specs.Agreed.{Kept, keeper}
use Rattle.runtime_history.proofs.Moves.{begins}
use Rattle.runtime_history.proofs.callers.Begun.new.Goals as goal

pub of_words-requires : goal.of_words-requires
of_words-requires c =
    let new = c.new-registry.ensures in
    subst (λ (r : Registry). Kept r.baseline (keeper r [] ∷ [])) (sym c.make_ready.ensures)
    (begins c.new-registry.result
    (new.empty ∙ ap empty (sym (ap (λ (x : Runtime). x.baseline) new.empty))) new.bound new.agrees)

pub invariant_of-result : goal.invariant_of-result
invariant_of-result c =
    let e = c.in_ok-table.ensures in (
      e.2,
      e.4,
      (let words = e.0 in omega arith),
      sym (ap (λ (r : Registry). r.baseline) e.5),
      λ uid. ap (λ (r : Registry). stages_in r uid) c.make_ready.ensures
          ∙ ap (λ (x : Runtime). (x.sandbox uid).stage) c.new-registry.ensures.empty,
    )
