use Rattle.std.proofs.Common.{List, [], rules, ap, subst, sym}
use Rattle.cri_msgs.specs.Calls.{uid_of}
use Rattle.runtime_cell.specs.Cell.{Cell}
use Rattle.registry.specs.declared.registry.Registry.{Registry}
use Rattle.registry.specs.Stands.{stages_in}
use Rattle.runtime_core.specs.Stands.{LendsTo}
use Rattle.runtime_history.specs.Agreed.{started_in}
use Rattle.runtime_history.specs.Sandboxes.{IsLive, Wakes}
use Rattle.runtime_history.proofs.Stages.{dead_still}
use Rattle.runtime_history.proofs.parts.Registered.serve_absent.Goals as goal

pub returns-clause-stays : goal.returns-clause-stays
returns-clause-stays g c =
    let call = c.args.request.call in
    let is = ap (λ p. p.0) (sym c.self.view_is) in
    dead_still c.self.inside.registry c.serve_lent-reply.new.self call c.args.files
    c.serve_lent-reply.result.answer c.new-none.result c.serve_lent-reply.new.cells
    c.serve_lent-reply.ensures.row
    (subst (λ (r : Registry). Wakes r call → ⊥) is c.requires.makes_none)
    (subst (λ (r : Registry). IsLive (stages_in r (uid_of call)) → ⊥) is c.requires.dead)

pub note_absent-requires-clause-lent : goal.note_absent-requires-clause-lent
note_absent-requires-clause-lent g c =
    let call = c.args.request.call in
    let is = ap (λ p. p.0) (sym c.self.view_is) in
    let r = c.self.inside.registry in
    let new = c.serve_lent-reply.new.self in
    let answer = c.serve_lent-reply.result.answer in
    let behind = c.serve_lent-reply.new.cells in
    let e = c.serve_lent-reply.ensures in
    let lent : LendsTo r new call c.args.files answer [] behind =
    subst (λ (cells : List Cell). LendsTo r new call c.args.files answer cells behind) c.new-none.ensures
    (record { row = e.row; spares = e.spares; keeps = e.keeps }) in
    let dead : IsLive (stages_in r (uid_of call)) → ⊥ =
    subst (λ (x : Registry). IsLive (stages_in x (uid_of call)) → ⊥) is c.requires.dead in
    rw (c.requires.asked.0, c.requires.asked.1) (
      r,
      started_in c.self.inside.token.me.0.registry,
      behind,
      search rules,
      lent,
      dead,
      dead_still r new call c.args.files answer c.new-none.result behind e.row
          (subst (λ (x : Registry). Wakes x call → ⊥) is c.requires.makes_none) dead,
    )
