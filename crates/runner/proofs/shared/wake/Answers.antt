use Rattle.std.proofs.Common.{◌≡◌, ℕ, List, sym, subst, ap, ◌∙◌}
use Rattle.std.specs.Arc.{arc_value}
use Rattle.registry.specs.Stands.{stages_in}
use Rattle.runner.specs.declared.sandbox.SandboxCells.{SandboxCells}
use Rattle.runner.specs.Shared.{has, is_live}
use Rattle.runner.proofs.Kept.{listed_changed, live_is}
use Rattle.runner.proofs.shared.wake.Goals as goal

pub returns-in-Ok-clause-listed : goal.returns-in-Ok-clause-listed
returns-in-Ok-clause-listed g c =
    let list = arc_value {X = SandboxCells _} c.in-Ok.list in
    let new = c.wake-reply.new.self.0 in
    let lists = c.settle.new.lists in
    let asked = ap (λ (s : SandboxCells _). s.uid) c.deref.ensures in
    let settled = ap (λ (s : SandboxCells _). s.uid) c.deref-in-Ok.ensures in
    listed_changed c.args.registered.now.0 new c.args.lists.now lists list.uid c.requires.listed
    (λ u other. c.wake-reply.ensures.others u (λ same. other (same ∙ asked)))
    (λ u other. c.settle.ensures.others u (λ same. other (same ∙ settled))
    ∙ c.in-Ok.ensures.others u (λ same. other (same ∙ sym c.in-Ok.ensures.own)))
    (subst (λ (uid : List ℕ). is_live (stages_in new uid) ≡ has lists list.uid) asked
    (live_is (stages_in new c.deref.result.now.uid) c.wake-reply.result.1 _ c.wake-reply.ensures.made
    c.wake-reply.ensures.none ∙ sym c.settle.ensures.here ∙ ap (has lists) settled))
