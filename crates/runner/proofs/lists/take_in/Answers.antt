use Rattle.std.proofs.Common.{◌≡◌, ◌∙◌, None}
use Rattle.std.specs.Arc.{arc_value}
use Rattle.runner.specs.declared.sandbox.SandboxCells.{SandboxCells}
use Rattle.registry.proofs.Texts.{found}
use Rattle.runner.proofs.Labels.{found_taken, has_elsewhere, has_here, has_value, still_labelled}
use Rattle.runner.proofs.lists.take_in.Goals as goal

pub returns-clause-own : goal.returns-clause-own
returns-clause-own g c = found_taken c.remove.result _
    (λ list. (arc_value {X = SandboxCells _} list).uid ≡ c.args.uid.now) c.remove.ensures.value
    (λ list is. c.requires c.args.uid.now list (found c.args.uid.now c.args.map.now.entries ∙ is))

pub returns-clause-labelled : goal.returns-clause-labelled
returns-clause-labelled g c = still_labelled (λ list.
    (arc_value {X = SandboxCells _} list).uid) c.args.uid.now
    c.args.map.now c.remove.new.self None c.remove.ensures.updates
    (λ list is. absurd cc) c.requires

pub returns-clause-found : goal.returns-clause-found
returns-clause-found g c = has_value c.args.uid.now c.args.map.now.entries c.remove.result
    c.remove.ensures.value

pub returns-clause-here : goal.returns-clause-here
returns-clause-here g c = has_here c.args.uid.now c.args.map.now c.remove.new.self None
    c.remove.ensures.updates

pub returns-clause-others : goal.returns-clause-others
returns-clause-others g c = has_elsewhere c.args.uid.now c.args.map.now c.remove.new.self None
    c.remove.ensures.updates
