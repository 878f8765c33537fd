use Rattle.std.proofs.Common.{[], rules, ap, subst, sym}
use Rattle.registry.specs.declared.registry.Registry.{Registry}
use Rattle.runtime_history.specs.Agreed.{started_in}
use Rattle.runtime_history.specs.Sandboxes.{Wakes}
use Rattle.runtime_history.proofs.Stages.{wakes_dead}
use Rattle.runtime_history.proofs.Unwoken.{unwoken}
use Rattle.runtime_history.proofs.parts.Registered.refuse.Goals as goal

pub note_absent-requires-clause-lent : goal.note_absent-requires-clause-lent
note_absent-requires-clause-lent g c =
    let r = c.self.inside.registry in
    let is = ap (λ p. p.0) (sym c.self.view_is) in
    let wakes = subst (λ (x : Registry). Wakes x g.Q.Asked.call) is c.requires.wakes in
    let dead = wakes_dead r g.Q.Asked.call wakes in
    let ids = started_in c.self.inside.token.me.0.registry in
    (r, ids, [], search rules, unwoken r g.Q.Asked.call g.Q.Asked.files wakes, dead, dead)
