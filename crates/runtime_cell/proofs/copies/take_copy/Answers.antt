use Rattle.std.proofs.Common.{◌≡◌, ◌∙◌, ◌++◌, ◌∷◌, [], ap, sym, suc, Some, drop, slice_get}
use Rattle.runtime_cell.specs.Keeps.{filter_in, filters_in}
use Rattle.runtime_cell.proofs.Kept.{copies_at, popped, step_read}
use Rattle.runtime_cell.proofs.copies.take_copy.Goals as goal

pub returns-clause-copy : goal.returns-clause-copy
returns-clause-copy c =
    let steps = c.args.steps.now in
    let place = c.args.place in
    let here : slice_get steps place ≡ Some c.in_ok-step.step.now =
    step_read steps place c.in_ok-step.step.now c.in_ok-step.ensures.lookup.0
    c.in_ok-step.ensures.lookup.1 in
    let own : filter_in (slice_get steps place) ≡ c.in_ok-_installs._installs.now ∷ [] = ap filter_in here
    ∙ sym c.in_ok-_installs.ensures in
    popped _ _ c.pop_front.result c.in_ok-_installs._installs.now (filters_in (drop (suc place) steps))
    (c.requires ∙ copies_at steps place ∙ ap (λ fs. fs ++ filters_in (drop (suc place) steps)) own)
    c.pop_front.ensures.items c.pop_front.ensures.rest ∙ sym own
