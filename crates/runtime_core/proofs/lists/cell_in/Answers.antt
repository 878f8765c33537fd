use Rattle.std.proofs.Common.{◌∙◌, List, [], sym, ap, subst, unwrap_or}
use Rattle.std.specs.Prelude.{option_copied}
use Rattle.runtime_cell.specs.Cell.{Cell}
use Rattle.registry.specs.Kept.{HasNoneIn, ReadsIn, by_bytes}
use Rattle.runtime_core.proofs.Listed.{no_cells, no_list}
use Rattle.registry.proofs.Texts.{found}
use Rattle.runtime_core.proofs.lists.cell_in.Goals as goal

pub returns-in-Some : goal.returns-in-Some
returns-in-Some c = subst (λ (cells : List Cell).
    ReadsIn cells c.args.id (option_copied c.get-in-Some.result))
    (sym (ap (λ l. unwrap_or l []) (found c.args.uid.now c.args.map.now.entries ∙ sym c.get.ensures.value
    ∙ ap option_copied c.in-Some.is))) c.get-in-Some.ensures

pub returns-in-None : goal.returns-in-None
returns-in-None c = subst (λ (cells : List Cell). HasNoneIn cells c.args.id)
    (sym (no_cells (by_bytes c.args.map.now.entries) c.args.uid.now
    (no_list c.args.uid.now c.args.map.now (sym c.get.ensures.value ∙ ap option_copied c.in-None.is))))
    (λ cell among same. elim among [ ])
