use Rattle.std.proofs.Common.{◌∙◌, sym, ap}
use Rattle.std.specs.Prelude.{option_copied}
use Rattle.runtime_core.proofs.ById.{none_by_id, reads_by_id}
use Rattle.runtime_core.proofs.runtime.cell.Goals as goal

pub returns-in-Some : goal.returns-in-Some
returns-in-Some c = reads_by_id c.args.registry.now c.args.lists.now c.requires c.args.id c.in-Some.uid.now
    (option_copied c.cell.result)
    (sym c.home.ensures ∙ ap option_copied c.in-Some.is) c.cell.ensures

pub returns-in-None : goal.returns-in-None
returns-in-None c = none_by_id c.args.registry.now c.args.lists.now c.requires c.args.id (sym c.home.ensures
    ∙ ap option_copied c.in-None.is)
