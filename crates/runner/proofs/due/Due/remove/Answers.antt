use Rattle.std.proofs.Common.{◌∙◌, ◌==◌, List, ℕ, None, ap}
use mathlib.Core.Bool.{cond}
use Rattle.std.specs.Arc.{arc_value}
use Rattle.std.specs.declared.sync.Arc.{Arc}
use Rattle.std.specs.Global.{Global}
use Rattle.registry.specs.Kept.{home_in}
use Rattle.runner.specs.declared.sandbox.SandboxCells.{SandboxCells}
use Rattle.runner.proofs.Dues.{due_changes}
use Rattle.runner.proofs.due.Due.remove.Goals as goal

pub returns-clause-kept : goal.returns-clause-kept
returns-clause-kept g c = λ i.
    let uid_in : Arc (SandboxCells _) Global → List ℕ = λ list. (arc_value {X = SandboxCells _} list).uid in
    due_changes uid_in c.args.id c.self.inside.cells c.remove.new.self None c.remove.ensures.updates i
    ∙ ap (λ v. cond (c.args.id == i) None (home_in v.homes i)) c.self.view_is
