use Rattle.std.proofs.Common.{sym, ◌∙◌}
use Rattle.registry.proofs.Places.{none_at, walked_at}
use Rattle.registry.proofs.cells.place_by_walk.Goals as goal

pub returns-in-Some-clause-found : goal.returns-in-Some-clause-found
returns-in-Some-clause-found c = walked_at c.args.cells.now c.args.id c.in-Some.at (sym c.first_of_id.ensures
    ∙ c.in-Some.is)

pub returns-in-None-clause-none : goal.returns-in-None-clause-none
returns-in-None-clause-none c = none_at c.args.cells.now c.args.id (sym c.first_of_id.ensures ∙ c.in-None.is)
