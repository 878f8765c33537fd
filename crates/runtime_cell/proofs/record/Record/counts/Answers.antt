use Rattle.std.proofs.Common.{arith, sym}
use Rattle.runtime_cell.specs.declared.calls.JudgedCall.{JudgedCall}
use Rattle.runtime_cell.proofs.Counted.{all_counted}
use Rattle.runtime_cell.proofs.record.Record.counts.Goals as goal

pub returns-clause-denied : goal.returns-clause-denied
returns-clause-denied c =
    let all = all_counted (λ (entry : JudgedCall). entry.performed) c.self.inside.entries.items in
    rw (sym c.self.view_is) (omega (arith, all, c.len.ensures, c.self.invariant))
