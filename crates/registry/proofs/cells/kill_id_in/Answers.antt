use Rattle.std.proofs.Common.{◌≡◌, List, ◌∙◌, ap, subst, refl}
use Rattle.runtime_cell.specs.Cell.{Cell, Making, killed}
use Rattle.registry.specs.Kept.{HasNoneIn, IsAtPlace}
use Rattle.registry.proofs.Places.{ids_at, moves_at, named_at}
use Rattle.registry.proofs.cells.kill_id_in.Goals as goal

pub returns-in-None-clause-moves : goal.returns-in-None-clause-moves
returns-in-None-clause-moves c = (
  subst (λ (cells : List Cell). HasNoneIn cells c.args.id) c.as_slice.ensures.value c.in-None.ensures.none,
  refl,
)

pub returns-in-Some-clause-moves : goal.returns-in-Some-clause-moves
returns-in-Some-clause-moves c =
    let cells = c.args.cells.now.items in
    let is = subst (λ (cells : List Cell). IsAtPlace cells c.in-Some.at c.args.id) c.as_slice.ensures.value
    c.in-Some.ensures.found in
    moves_at cells c.args.id c.in-Some.at (λ cell later. later ≡ killed c.args.code cell) c.kill.new.self
    c.index_mut.result.now is
    (subst (λ (cell : Cell). c.kill.new.self ≡ killed c.args.code cell) c.index_mut.ensures.value
    c.kill.ensures)

pub returns-in-Some-clause-named : goal.returns-in-Some-clause-named
returns-in-Some-clause-named c = λ named.
    let cells = c.args.cells.now.items in
    let is = subst (λ (cells : List Cell). IsAtPlace cells c.in-Some.at c.args.id) c.as_slice.ensures.value
    c.in-Some.ensures.found in
    let inside = (is c.index_mut.result.now).0 in
    named_at cells c.in-Some.at c.kill.new.self c.index_mut.result.now inside
    (ap (λ (cell : Cell). cell.making) c.kill.ensures
    ∙ ap (λ (cell : Cell). cell.making) c.index_mut.ensures.value) named

pub returns-in-Some-clause-ids : goal.returns-in-Some-clause-ids
returns-in-Some-clause-ids c = ids_at c.args.cells.now.items c.in-Some.at c.kill.new.self
    c.index_mut.result.now
    (ap (λ (making : Making). making.label.id) (ap (λ (cell : Cell). cell.making) c.kill.ensures
    ∙ ap (λ (cell : Cell). cell.making) c.index_mut.ensures.value))
