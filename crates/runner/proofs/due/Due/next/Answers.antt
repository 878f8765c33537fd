use Rattle.std.proofs.Common.{◌∙◌, List, ℕ, sym, ap}
use Rattle.std.specs.Arc.{arc_value}
use Rattle.std.specs.declared.sync.Arc.{Arc}
use Rattle.std.specs.Global.{Global}
use Rattle.runner.specs.declared.sandbox.SandboxCells.{SandboxCells}
use Rattle.std.specs.BTreeMap.{get}
use Rattle.std.specs.Ordering.{nat_cmp}
use Rattle.registry.specs.Kept.{home_in}
use Rattle.runner.proofs.Dues.{found_due, next_due}
use Rattle.runner.proofs.due.Due.next.Goals as goal

pub returns : goal.returns
returns g c =
    let uid_in : Arc (SandboxCells _) Global → List ℕ = λ list. (arc_value {X = SandboxCells _} list).uid in
    next_due uid_in (get nat_cmp c.self.inside.cells) (home_in c.args.self.now.homes)
    (λ i. sym (ap (λ v. home_in v.homes i) c.self.view_is) ∙ found_due uid_in i c.self.inside.cells.entries)
    c.args.above c.next_key.result c.next_key.ensures
