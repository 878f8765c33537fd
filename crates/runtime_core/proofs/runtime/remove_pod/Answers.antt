use Rattle.std.proofs.Common.{◌≡◌, ◌≢◌, ◌∙◌, ℕ, List, [], None, sym, ap, subst, unwrap_or}
use Rattle.cri_msgs.specs.Calls.{uid_of}
use Rattle.registry.specs.Stands.{Agrees, around_in, part_in, stages_in}
use Rattle.runtime_core.specs.Stands.{IsListFor, LendsTo, cells_in, list_in}
use Rattle.runtime_core.proofs.Serving.{whole_still}
use Rattle.runtime_core.proofs.Stays.{removes_dead}
use Rattle.runtime_core.proofs.There.{dead_none, lent_none}
use Rattle.runtime_core.proofs.runtime.remove_pod.Goals as goal

pub returns-clause-whole : goal.returns-clause-whole
returns-clause-whole c =
    let old = c.args.registry.now in
    let new = c.serve_lent.new.self in
    let call = c.args.request.call in
    let uid = uid_of call in
    let before = c.take-cells.result in
    let same = c.as_str.ensures.value ∙ c.uid_of.ensures in
    let was = subst (λ u. cells_in c.args.lists.now u ≡ before) same (sym c.take-cells.ensures.cells) in
    let served : LendsTo old new call c.args.files c.serve_lent.result.answer before c.serve_lent.new.cells =
    record {
      row = c.serve_lent.ensures.row;
      spares = c.serve_lent.ensures.spares;
      keeps =
          c.serve_lent.ensures.keeps;
    } in
    let dead = removes_dead (around_in old) call c.args.files (part_in old uid before)
    (part_in new uid c.serve_lent.new.cells) c.serve_lent.result.answer c.requires.removes
    c.serve_lent.ensures.row in
    let lent = lent_none old new call c.args.files c.serve_lent.result.answer before c.serve_lent.new.cells
    c.requires.whole.bound (subst (Agrees old uid) was (c.requires.whole.agrees uid)) dead served in
    let none = subst (λ u. list_in c.take-cells.new.self u ≡ None) same c.take-cells.ensures.here in
    whole_still old new c.args.lists.now c.take-cells.new.self call c.args.files c.serve_lent.result.answer
    before [] c.requires.whole was (ap (λ l. unwrap_or l []) none)
    (subst (λ v. (u : List ℕ) → u ≢ v → list_in c.take-cells.new.self u ≡ list_in c.args.lists.now u) same
    c.take-cells.ensures.others) lent
    (subst (IsListFor (stages_in new uid)) (sym none) (dead_none (stages_in new uid) dead))
