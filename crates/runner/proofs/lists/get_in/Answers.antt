use Rattle.std.proofs.Common.{◌≡◌, ◌∙◌}
use Rattle.std.specs.Arc.{arc_value}
use Rattle.runner.specs.declared.sandbox.SandboxCells.{SandboxCells}
use Rattle.registry.proofs.Texts.{found}
use Rattle.runner.proofs.Labels.{found_lent, has_lent}
use Rattle.runner.proofs.lists.get_in.Goals as goal

pub returns-clause-own : goal.returns-clause-own
returns-clause-own g c = found_lent c.get.result _ (λ list.
    (arc_value {X = SandboxCells _} list).uid ≡ c.args.uid.now)
    c.get.ensures.value
    (λ list is. c.requires c.args.uid.now list (found c.args.uid.now c.args.map.now.entries ∙ is))

pub returns-clause-found : goal.returns-clause-found
returns-clause-found g c = has_lent c.args.uid.now c.args.map.now.entries c.get.result c.get.ensures.value
