use Rattle.std.proofs.Common.{rules, List, [], subst, sym, ap}
use Rattle.runtime_cell.specs.Cell.{Cell}
use Rattle.registry.specs.declared.registry.Registry.{Registry}
use Rattle.runtime_core.specs.Stands.{LendsTo}
use Rattle.runtime_history.specs.Agreed.{started_in}
use Rattle.runtime_history.specs.Sandboxes.{Wakes}
use Rattle.runtime_history.proofs.Stages.{wakes_dead, wakes_unknown}
use Rattle.runtime_history.proofs.parts.Registered.wake.Goals as goal

pub note_absent-requires-clause-lent : goal.note_absent-requires-clause-lent
note_absent-requires-clause-lent g c =
    let call = c.args.request.call in
    let r = c.self.inside.registry in
    let e = c.serve_lent-reply.ensures in
    let new = c.serve_lent-reply.new.self in
    let behind = c.serve_lent-reply.new.cells in
    let lent : LendsTo r new call c.args.files c.serve_lent-reply.result.answer [] behind =
    subst (λ (cells : List Cell). LendsTo r new call c.args.files c.serve_lent-reply.result.answer cells
    behind) c.new-cells.ensures (record { row = e.row; spares = e.spares; keeps = e.keeps }) in
    let is = ap (λ p. p.0) (sym c.self.view_is) in
    let wakes = subst (λ (x : Registry). Wakes x call) is c.requires.wakes in
    rw (c.requires.asked.0, c.requires.asked.1) (
      r,
      started_in c.self.inside.token.me.0.registry,
      behind,
      search rules,
      lent,
      wakes_dead r call wakes,
      search rules,
    )

pub note_new-requires-clause-lent : goal.note_new-requires-clause-lent
note_new-requires-clause-lent g c =
    let call = c.args.request.call in
    let r = c.self.inside.registry in
    let e = c.serve_lent-reply.ensures in
    let new = c.serve_lent-reply.new.self in
    let behind = c.serve_lent-reply.new.cells in
    let lent : LendsTo r new call c.args.files c.serve_lent-reply.result.answer [] behind =
    subst (λ (cells : List Cell). LendsTo r new call c.args.files c.serve_lent-reply.result.answer cells
    behind) c.new-cells.ensures (record { row = e.row; spares = e.spares; keeps = e.keeps }) in
    let is = ap (λ p. p.0) (sym c.self.view_is) in
    let wakes = subst (λ (x : Registry). Wakes x call) is c.requires.wakes in
    rw (c.requires.asked.0, c.requires.asked.1) (
      r,
      started_in c.self.inside.token.me.0.registry,
      search rules,
      lent,
      wakes_unknown r call wakes,
      search rules,
    )
