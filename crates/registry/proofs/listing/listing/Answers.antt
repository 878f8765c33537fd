use Rattle.std.proofs.Common.{sym, subst, map, is_lt, IsPermutation, rules}
use Rattle.std.specs.Cmp.{IsTotalOrder}
use Rattle.std.specs.Cmp.Rules.{comparing}
use Rattle.std.specs.List.Sorted.{IsSortedByKey}
use Rattle.std.proofs.lemmas.List.MinMax.{ranks_by}
use Rattle.std.proofs.lemmas.List.Sorted.{answers_always}
use Rattle.cri_msgs.specs.Order.{container_cmp}
use Rattle.cri_msgs.specs.declared.lists.ListedContainer.{ListedContainer}
use Rattle.registry.specs.Serves.{listed}
use Rattle.registry.proofs.listing.listing.Goals as goal

total : IsTotalOrder container_cmp
total = search (comparing, rules)

pub returns : goal.returns
returns c = record {
  all = subst (λ items. IsPermutation (map listed c.args.cells.now) items) (sym c.new.ensures)
      (subst (λ items. IsPermutation items c.sort_unstable_by.new.self.items) c.in_ok-items.ensures
      c.sort_unstable_by.ensures.permutation);
  ordered = subst (IsSortedByKey (λ (item : ListedContainer). item.container) container_cmp)
      (sym c.new.ensures)
      (c.sort_unstable_by.ensures.sorted (λ a b. is_lt (container_cmp a.container b.container))
      (ranks_by total (λ (item : ListedContainer). item.container))
      (answers_always _ _ _ (λ f a r g k. search rules)));
}
