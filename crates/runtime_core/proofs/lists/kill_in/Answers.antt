use Rattle.std.proofs.Common.{◌≡◌, ◌∙◌, List, map, sym, ap, subst}
use Rattle.std.specs.Option.{option_copied_mut}
use Rattle.runtime_cell.specs.Cell.{Cell}
use Rattle.registry.specs.Runtime.{id_of}
use Rattle.registry.specs.Kept.{HasNoneIn, MayKillIn, by_bytes}
use Rattle.runtime_core.specs.Stands.{cells_in}
use Rattle.runtime_core.proofs.Listed.{Becomes, becomes, lies, no_cells, no_list, still_listed}
use Rattle.runtime_core.proofs.lists.kill_in.Goals as goal

changes : (c : goal.After-map-in-Some-1)
    → Becomes (by_bytes c.args.map.now.entries)
    (by_bytes (c.get_mut.follows.lender c.kill_id.new.self).entries) c.args.uid.now c.in-Some.cells.now
    c.kill_id.new.self
changes c = becomes c.args.uid.now c.args.map.now (c.get_mut.follows.lender c.kill_id.new.self)
    c.in-Some.cells.now c.kill_id.new.self
    (sym c.get_mut.ensures.value ∙ ap option_copied_mut c.in-Some.is)
    (c.get_mut.follows.holds c.kill_id.new.self)

pub returns-in-Some-clause-moves : goal.returns-in-Some-clause-moves
returns-in-Some-clause-moves c = lies (λ before behind.
    MayKillIn before c.args.id c.args.code c.kill_id.result behind) _ _ _ _ _
    (changes c) c.kill_id.ensures.moves

pub returns-in-Some-clause-listed : goal.returns-in-Some-clause-listed
returns-in-Some-clause-listed c = still_listed _ _ _ _ _ (changes c)

pub returns-in-Some-clause-others : goal.returns-in-Some-clause-others
returns-in-Some-clause-others c = (changes c).others

pub returns-in-None-clause-moves : goal.returns-in-None-clause-moves
returns-in-None-clause-moves c =
    let none = no_cells (by_bytes c.args.map.now.entries) c.args.uid.now
    (no_list c.args.uid.now c.args.map.now (sym c.get_mut.ensures.value
    ∙ ap option_copied_mut c.in-None.is)) in (
      subst (λ (cells : List Cell). HasNoneIn cells c.args.id) (sym none) (λ cell among same. elim among [ ]),
      ap (λ m. cells_in (by_bytes m.entries) c.args.uid.now) c.get_mut.follows.holds-at-none,
    )

pub returns-in-Some-clause-ids : goal.returns-in-Some-clause-ids
returns-in-Some-clause-ids c = lies (λ before behind. map id_of behind ≡ map id_of before) _ _ _ _ _
    (changes c) c.kill_id.ensures.ids
