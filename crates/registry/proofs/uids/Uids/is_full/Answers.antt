use Rattle.std.proofs.Common.{◌≤◌, sym, subst}
use Rattle.std.proofs.lemmas.Bool.{le-leb, leb-true}
use Rattle.registry.specs.declared.limits.TheConstants.{MAX_UIDS}
use Rattle.registry.specs.Kept.{known_in, stage_of}
use Rattle.registry.specs.Serves.{IsFull}
use Rattle.registry.proofs.Counts.{full, not_fuller}
use Rattle.registry.proofs.uids.Uids.is_full.Goals as goal

pub returns : goal.returns
returns c =
    let entries = c.self.inside.map.entries in (
      (λ so. subst (λ es. IsFull (λ uid. stage_of (known_in es uid))) c.self.view_is
          (full entries c.len.ensures.ordered
          (subst (λ n. MAX_UIDS ≤ n) c.len.ensures.len (leb-true MAX_UIDS c.len.result so)))),
      (λ is. le-leb MAX_UIDS c.len.result (subst (λ n. MAX_UIDS ≤ n) (sym c.len.ensures.len)
          (not_fuller entries (subst (λ es. IsFull (λ uid. stage_of (known_in es uid)))
          (sym c.self.view_is) is)))),
    )
