use Rattle.std.proofs.Common.{◌≡◌, ◌≢◌, ◌∙◌, ℕ, List, [], Some, sym, subst, ap, string_bytes}
use Rattle.registry.specs.Kept.{by_bytes}
use Rattle.runtime_core.specs.Stands.{list_in}
use Rattle.registry.proofs.Texts.{elsewhere, here}
use Rattle.runtime_core.proofs.lists.Lists.put.Goals as goal

pub returns-clause-here : goal.returns-clause-here
returns-clause-here c = subst (λ uid. list_in (by_bytes c.insert.new.self.entries) uid ≡ Some [])
    c.in_ok-key.ensures.ok
    (here (string_bytes c.in_ok-key.key) c.self.inside.map c.insert.new.self
    (Some c.new.result) c.in_ok-insert.ensures.updates ∙ ap Some c.new.ensures)

pub returns-clause-others : goal.returns-clause-others
returns-clause-others c = λ u differ.
    elsewhere (string_bytes c.in_ok-key.key) c.self.inside.map c.insert.new.self
    (Some c.new.result) c.in_ok-insert.ensures.updates u
    (subst (λ (uid : List ℕ). u ≢ uid) (sym c.in_ok-key.ensures.ok) differ)
    ∙ ap (λ lists. list_in lists u) c.self.view_is
