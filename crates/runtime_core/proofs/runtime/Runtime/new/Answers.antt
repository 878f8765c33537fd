use Rattle.std.proofs.Common.{◌≡◌, ℕ, List, None, refl, sym, ap, subst}
use Rattle.runtime_cell.specs.Cell.{Cell}
use Rattle.registry.specs.Runtime.{Runtime, empty}
use Rattle.registry.specs.Stands.{runtime_of}
use Rattle.runtime_core.specs.Stands.{IsListFor, IsWhole, cells_in}
use Rattle.runtime_core.proofs.runtime.Runtime.new.Goals as goal

pub invariant_of-result : goal.invariant_of-result
invariant_of-result c = subst (IsWhole c.new.result) (sym c.new-2.ensures) (record {
  bound = c.new.ensures.bound;
  agrees = c.new.ensures.agrees;
  listed = λ uid. subst (λ s. IsListFor s None)
      (sym (ap (λ (r : Runtime). (r.sandbox uid).stage) c.new.ensures.empty)) refl;
})

pub returns : goal.returns
returns c = subst (λ (lists : List (List ℕ × List Cell)).
    runtime_of c.new.result (cells_in lists) ≡ empty c.args.baseline)
    (sym c.new-2.ensures) c.new.ensures.empty
