use Rattle.std.proofs.Common.{◌∙◌, ◌==◌, List, ℕ, Some, ap}
use mathlib.Core.Bool.{cond}
use Rattle.std.specs.Arc.{arc_value}
use Rattle.std.specs.declared.sync.Arc.{Arc}
use Rattle.std.specs.Global.{Global}
use Rattle.registry.specs.Kept.{home_in}
use Rattle.runner.specs.declared.sandbox.SandboxCells.{SandboxCells}
use Rattle.runner.specs.Labelled.{homes_of}
use Rattle.runner.proofs.Dues.{due_changes}
use Rattle.runner.proofs.due.put_in.Goals as goal

pub returns : goal.returns
returns g c = λ i.
    let uid_in : Arc (SandboxCells _) Global → List ℕ = λ list. (arc_value {X = SandboxCells _} list).uid in
    due_changes uid_in c.args.id c.args.cells.now c.insert.new.self (Some c.in_ok-kept.kept)
    c.in_ok-insert.ensures.updates i
    ∙ ap (λ (s : SandboxCells _). cond (c.args.id == i) (Some s.uid)
    (home_in (homes_of uid_in c.args.cells.now.entries) i)) c.in_ok-kept.ensures
