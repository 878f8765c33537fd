use Rattle.std.proofs.Common.{◌≡◌, ◌∙◌, sym, ap, subst}
use Rattle.std.proofs.Math.ListN.{set}
use Rattle.std.specs.List.{position}
use Rattle.std.specs.Prelude.{slice_index_or}
use Rattle.runtime_cell.specs.Cell.{started}
use Rattle.registry.specs.Runtime.{change_first, is_of}
use Rattle.registry.proofs.Firsts.{changed, found_at, found_none, unchanged}
use Rattle.registry.proofs.cells.start_in.Goals as goal

pub returns-in-Some : goal.returns-in-Some
returns-in-Some c =
    let test = is_of c.args.container.now in
    let cells = c.args.cells.now.items in
    let at = found_at test cells c.in-Some.at (ap (position test) (sym c.as_slice.ensures.value)
    ∙ sym c.place_of.ensures ∙ c.in-Some.is) in
    let new = c.start.ensures ∙ ap started c.index_mut.ensures.value in
    ap (set cells c.in-Some.at) new ∙ subst
    (λ i. set cells i (started (slice_index_or cells i c.index_mut.result.now))
    ≡ change_first test started cells) at (changed test started c.index_mut.result.now cells)

pub returns-in-None : goal.returns-in-None
returns-in-None c =
    let test = is_of c.args.container.now in
    let cells = c.args.cells.now.items in
    sym (unchanged test started cells (found_none test cells
    (ap (position test) (sym c.as_slice.ensures.value) ∙ sym c.place_of.ensures ∙ c.in-None.is)))
