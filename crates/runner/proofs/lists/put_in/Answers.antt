use Rattle.std.proofs.Common.{◌≡◌, ◌∙◌, List, ℕ, Some, true, sym, ap, subst, string_bytes}
use Rattle.std.specs.Arc.{arc_value}
use Rattle.runner.specs.declared.sandbox.SandboxCells.{SandboxCells}
use Rattle.runner.specs.Labelled.{uids_in}
use Rattle.runner.specs.Shared.{has}
use Rattle.runner.proofs.Labels.{has_elsewhere, has_here, same_some, still_labelled}
use Rattle.runner.proofs.lists.put_in.Goals as goal

pub returns-clause-labelled : goal.returns-clause-labelled
returns-clause-labelled g c =
    let own = ap (λ (s : SandboxCells _). s.uid) c.in_ok-kept.ensures ∙ c.in_ok-list.ensures.own
    ∙ sym c.as_str.ensures.value ∙ sym c.in_ok-key.ensures.ok in
    still_labelled (λ list. (arc_value {X = SandboxCells _} list).uid)
    (string_bytes c.in_ok-key.key) c.args.map.now c.insert.new.self
    (Some c.in_ok-kept.kept) c.in_ok-insert.ensures.updates
    (λ list is. ap (λ other. (arc_value {X = SandboxCells _} other).uid) (sym (same_some _ _ is))
    ∙ own) c.requires

pub returns-clause-here : goal.returns-clause-here
returns-clause-here g c =
    let key = c.in_ok-key.ensures.ok ∙ c.as_str.ensures.value in
    subst (λ (uid : List ℕ). has (uids_in c.insert.new.self.entries) uid ≡ true) key
    (has_here (string_bytes c.in_ok-key.key) c.args.map.now c.insert.new.self (Some c.in_ok-kept.kept)
    c.in_ok-insert.ensures.updates)

pub returns-clause-others : goal.returns-clause-others
returns-clause-others g c = λ u differ.
    let key = c.in_ok-key.ensures.ok ∙ c.as_str.ensures.value in
    has_elsewhere (string_bytes c.in_ok-key.key) c.args.map.now c.insert.new.self (Some c.in_ok-kept.kept)
    c.in_ok-insert.ensures.updates u (λ same. differ (same ∙ key))
