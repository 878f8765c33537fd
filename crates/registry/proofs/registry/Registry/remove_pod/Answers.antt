use Rattle.std.proofs.Common.{◌≡◌, ◌≢◌, ◌∙◌, ◌==◌, ℕ, List, [], None, sym, ap, refl, option_map, subst, arith}
use mathlib.Core.Bool.{cond}
use Rattle.std.specs.List.{list_any}
use Rattle.runtime_cell.specs.Cell.{Cell}
use Rattle.registry.specs.declared.registry.Registry.{Registry}
use Rattle.registry.specs.declared.stage.Stage.TheVariants as stage
use Rattle.registry.specs.Kept.{dead, home_in, known_in, stage_of}
use Rattle.registry.specs.Runtime.{id_of}
use Rattle.registry.specs.Stands.{IsEmptyIn, Keeps}
use Rattle.registry.proofs.Agreeing.{keeps_none, removed_none, spares_others}
use Rattle.registry.proofs.registry.Registry.remove_pod.Goals as goal

abbrev after : goal.After-put_all → Registry
after c = record {
  alloc = c.args.self.now.alloc;
  baseline = c.args.self.now.baseline;
  ready = c.args.self.now.ready;
  uids = c.end.new.self;
  homes = c.forget.new.self;
  made = c.args.self.now.made;
}

forgotten : (c : goal.After-put_all) → (i : ℕ)
    → home_in c.forget.new.self i ≡ cond (list_any (λ cell. id_of cell == i) c.args.cells.now) None
    (home_in c.args.self.now.homes i)
forgotten c i = c.forget.ensures i ∙ ap (λ (cells : List Cell).
    cond (list_any (λ cell. id_of cell == i) cells) None (home_in c.args.self.now.homes i))
    c.as_slice.ensures.value

pub returns-in-Live-clause-keeps : goal.returns-in-Live-clause-keeps
returns-in-Live-clause-keeps c =
    let new : Registry = after c in
    let here = subst (λ u. known_in c.end.new.self u ≡ option_map dead (known_in c.args.self.now.uids u))
    c.as_str-in-Live.ensures.value c.end.ensures.here in
    let live = subst (λ u. stage_of (known_in c.args.self.now.uids u) ≡ stage.Live c.in-Live.ready)
    c.as_str.ensures.value (sym c.stage.ensures ∙ c.in-Live.is) in
    subst (λ (cells : List Cell). Keeps c.args.self.now new c.args.uid.now c.args.cells.now cells)
    (sym c.put_all.ensures.left)
    (keeps_none c.args.self.now new c.args.uid.now c.args.cells.now refl (forgotten c)
    (subst (λ k. IsEmptyIn (stage_of k) []) (sym here)
    (removed_none (known_in c.args.self.now.uids c.args.uid.now) c.in-Live.ready live)))

pub returns-in-Live-clause-spares : goal.returns-in-Live-clause-spares
returns-in-Live-clause-spares c = record {
  known = subst (λ uid. (u : List ℕ) → u ≢ uid → known_in c.end.new.self u ≡ known_in c.args.self.now.uids u)
      c.as_str-in-Live.ensures.value c.end.ensures.others;
  home = spares_others c.args.self.now (after c) c.args.uid.now c.args.cells.now refl (forgotten c);
  baseline = refl;
  made = omega arith;
}

pub returns-in-Unknown-clause-spares : goal.returns-in-Unknown-clause-spares
returns-in-Unknown-clause-spares c = c.bury.ensures.spares c.args.cells.now
