use Rattle.std.proofs.Common.{rules}
use Rattle.runtime_history.specs.Agreed.{started_in, uid_by}
use Rattle.runtime_history.proofs.parts.Registered.forget.Goals as goal

pub forget-requires-clause-lent : goal.forget-requires-clause-lent
forget-requires-clause-lent g c =
    let uid = uid_by c.listed.inside.token.me.0.cells in (
      uid,
      started_in c.self.inside.token.me.0.registry,
      search rules,
      c.is_over.ensures uid c.if-not-is_over.false,
    )
