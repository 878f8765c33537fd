use Rattle.std.proofs.Common.{◌≡◌, ◌∙◌, sym, ap, subst, Some, slice_get, refl}
use Rattle.std.specs.List.{position, remove}
use Rattle.registry.specs.Runtime.{drop_first, is_of}
use Rattle.std.proofs.lemmas.Option.{slice_get-get_or}
use Rattle.std.proofs.lemmas.List.Quantifiers.{position-Some}
use Rattle.registry.proofs.Firsts.{dropped, found, found_at, found_none, lost, undropped}
use Rattle.registry.proofs.cells.remove_in.Goals as goal

pub returns-in-None-clause-cells : goal.returns-in-None-clause-cells
returns-in-None-clause-cells c =
    let test = is_of c.args.container.now in
    let cells = c.args.cells.now.items in
    sym (undropped test cells (found_none test cells (ap (position test) (sym c.as_slice.ensures.value)
    ∙ sym c.place_of.ensures ∙ c.in-None.is)))

pub returns-in-None-clause-cell : goal.returns-in-None-clause-cell
returns-in-None-clause-cell c =
    let test = is_of c.args.container.now in
    let cells = c.args.cells.now.items in
    sym (lost test cells (found_none test cells (ap (position test) (sym c.as_slice.ensures.value)
    ∙ sym c.place_of.ensures ∙ c.in-None.is)))

pub returns-in-Some-clause-cells : goal.returns-in-Some-clause-cells
returns-in-Some-clause-cells c =
    let test = is_of c.args.container.now in
    let cells = c.args.cells.now.items in
    let at = found_at test cells c.in-Some.at (ap (position test) (sym c.as_slice.ensures.value)
    ∙ sym c.place_of.ensures ∙ c.in-Some.is) in
    c.remove.ensures.items ∙ subst (λ i. remove cells i ≡ drop_first test cells) at (dropped test cells)

pub returns-in-Some-clause-cell : goal.returns-in-Some-clause-cell
returns-in-Some-clause-cell c =
    let test = is_of c.args.container.now in
    let cells = c.args.cells.now.items in
    let is = ap (position test) (sym c.as_slice.ensures.value) ∙ sym c.place_of.ensures ∙ c.in-Some.is in
    let at = found_at test cells c.in-Some.at is in
    let inside = (position-Some test cells c.in-Some.at c.remove.result is).0 in
    let stands = slice_get-get_or cells c.in-Some.at c.remove.result inside
    ∙ ap Some (sym c.remove.ensures.value) in
    sym (sym (found test cells) ∙ ap (slice_get cells) at ∙ stands)

pub returns-in-None-clause-none : goal.returns-in-None-clause-none
returns-in-None-clause-none c = refl
