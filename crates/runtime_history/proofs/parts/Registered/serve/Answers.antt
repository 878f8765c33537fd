use Rattle.std.proofs.Common.{rules, ap, ◌∙◌}
use Rattle.runtime_history.specs.Sandboxes.{if_done}
use Rattle.runtime_history.specs.Agreed.{started_in}
use Rattle.runtime_history.proofs.parts.Registered.serve.Goals as goal

pub note_served-requires-clause-lent : goal.note_served-requires-clause-lent
note_served-requires-clause-lent g c =
    let e = c.serve_lent-reply.ensures in
    rw (c.requires.asked.0, c.requires.asked.1) (
      c.self.inside.registry,
      started_in c.self.inside.token.me.0.registry,
      c.listed.inside.cells,
      search rules,
      record { row = e.row; spares = e.spares; keeps = e.keeps },
      c.if_done-started.ensures ∙ ap (if_done c.serve_lent-reply.result.answer) c.to_start-to_start.ensures,
    )
