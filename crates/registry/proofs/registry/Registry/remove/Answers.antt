use Rattle.std.proofs.Common.{◌≡◌, ◌==◌, ℕ, List, None, sym, ap, option_map, refl, subst, arith}
use mathlib.Core.Bool.{cond}
use Rattle.runtime_cell.specs.Cell.{Cell}
use Rattle.runtime_cell.specs.declared.label.Label.{Label}
use Rattle.registry.specs.declared.registry.Registry.{Registry}
use Rattle.registry.specs.declared.stage.Stage.TheVariants as stage
use Rattle.registry.specs.Kept.{home_in, known_in, stage_of}
use Rattle.registry.specs.Runtime.{drop_first, id_of, is_of}
use Rattle.registry.specs.Stands.{IsEmptyIn, Keeps}
use Rattle.registry.proofs.Removing.{keeps_dropped, spares_dropped}
use Rattle.registry.proofs.registry.Registry.remove.Goals as goal

abbrev after : goal.After-put → Registry
after c = record {
  alloc = c.args.self.now.alloc;
  baseline = c.args.self.now.baseline;
  ready = c.args.self.now.ready;
  uids =
      c.args.self.now.uids;
  homes = c.remove-in-Some.new.self;
  made = c.args.self.now.made;
}

-- the cell's id is in no sandbox now, and every other id is where it was
homes_of : (c : goal.After-put) → (i : ℕ) → home_in c.remove-in-Some.new.self i
    ≡ cond (id_of c.in-Some.cell == i) None (home_in c.args.self.now.homes i)
homes_of c = subst (λ (l : Label). (i : ℕ) → home_in c.remove-in-Some.new.self i
    ≡ cond (l.id == i) None (home_in c.args.self.now.homes i)) c.label.ensures c.remove-in-Some.ensures

pub returns-in-Some-clause-spares : goal.returns-in-Some-clause-spares
returns-in-Some-clause-spares c = record {
  known = λ u other. refl;
  home = spares_dropped c.args.self.now (after c) c.args.key.now.uid
      (is_of c.args.key.now.container) c.args.cells.now (id_of c.in-Some.cell)
      (sym (ap (option_map id_of) c.in-Some.ensures.cell)) refl (homes_of c);
  baseline = refl;
  made = omega arith;
}

pub returns-in-Some-clause-keeps : goal.returns-in-Some-clause-keeps
returns-in-Some-clause-keeps c =
    let test = is_of c.args.key.now.container in
    let live = subst (λ u. stage_of (known_in c.args.self.now.uids u) ≡ stage.Live c.in-Live.ready)
    c.as_str.ensures.value (sym c.in-Live.ensures) in
    subst (λ (cells : List Cell). Keeps c.args.self.now (after c) c.args.key.now.uid c.args.cells.now cells)
    (sym c.in-Some.ensures.cells)
    (keeps_dropped c.args.self.now (after c) c.args.key.now.uid test c.args.cells.now (id_of c.in-Some.cell)
    (sym (ap (option_map id_of) c.in-Some.ensures.cell)) refl (homes_of c)
    (λ _. subst (λ s. IsEmptyIn s (drop_first test c.args.cells.now)) (sym live) tt))
