use Rattle.std.proofs.Common.{◌≡◌, ◌≢◌, ◌∙◌, ℕ, List, Some, sym, subst, ap, string_bytes}
use Rattle.registry.specs.Kept.{by_bytes, known_in}
use Rattle.registry.proofs.Texts.{elsewhere, here}
use Rattle.registry.proofs.uids.Uids.put.Goals as goal

pub returns-clause-here : goal.returns-clause-here
returns-clause-here c = subst (λ uid. known_in (by_bytes c.insert.new.self.entries) uid ≡ Some c.args.known)
    c.in_ok-key.ensures.ok
    (here (string_bytes c.in_ok-key.key) c.self.inside.map c.insert.new.self
    (Some c.args.known) c.in_ok-insert.ensures.updates)

pub returns-clause-others : goal.returns-clause-others
returns-clause-others c = λ u differ.
    elsewhere (string_bytes c.in_ok-key.key) c.self.inside.map c.insert.new.self
    (Some c.args.known) c.in_ok-insert.ensures.updates u
    (subst (λ (uid : List ℕ). u ≢ uid) (sym c.in_ok-key.ensures.ok) differ)
    ∙ ap (λ entries. known_in entries u) c.self.view_is
