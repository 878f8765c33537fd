use Rattle.std.proofs.Common.{◌∙◌, None, sym, ap, unwrap_or, []}
use Rattle.runtime_core.proofs.Listed.{no_cells, no_list}
use Rattle.registry.proofs.Texts.{elsewhere, found, here}
use Rattle.registry.specs.Kept.{by_bytes}
use Rattle.runtime_core.proofs.lists.take_in.Goals as goal

pub returns-in-Some-clause-cells : goal.returns-in-Some-clause-cells
returns-in-Some-clause-cells c = sym (ap (λ l. unwrap_or l []) (found c.args.uid.now c.args.map.now.entries
    ∙ sym c.remove.ensures.value ∙ c.in-Some.is))

pub returns-in-Some-clause-here : goal.returns-in-Some-clause-here
returns-in-Some-clause-here c = here c.args.uid.now c.args.map.now c.remove.new.self None
    c.remove.ensures.updates

pub returns-in-Some-clause-others : goal.returns-in-Some-clause-others
returns-in-Some-clause-others c = elsewhere c.args.uid.now c.args.map.now c.remove.new.self None
    c.remove.ensures.updates

pub returns-in-None-clause-cells : goal.returns-in-None-clause-cells
returns-in-None-clause-cells c = c.new.ensures
    ∙ sym (no_cells (by_bytes c.args.map.now.entries) c.args.uid.now
    (no_list c.args.uid.now c.args.map.now (sym c.remove.ensures.value ∙ c.in-None.is)))

pub returns-in-None-clause-here : goal.returns-in-None-clause-here
returns-in-None-clause-here c = here c.args.uid.now c.args.map.now c.remove.new.self None
    c.remove.ensures.updates

pub returns-in-None-clause-others : goal.returns-in-None-clause-others
returns-in-None-clause-others c = elsewhere c.args.uid.now c.args.map.now c.remove.new.self None
    c.remove.ensures.updates
