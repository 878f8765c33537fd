use Rattle.std.proofs.Common.{◌≡◌, ◌∙◌, List, Some, None, sym, ap, subst}
use Rattle.std.specs.Option.{option_copied_mut}
use Rattle.runtime_cell.specs.Cell.{Cell}
use Rattle.registry.specs.Kept.{by_bytes}
use Rattle.cri_msgs.specs.Calls.{uid_of}
use Rattle.runtime_core.specs.Stands.{Lends, LendsTo, list_in}
use Rattle.runtime_core.proofs.Listed.{Becomes, becomes, no_list}
use Rattle.runtime_core.proofs.lists.lend_in.Goals as goal

changes : (c : goal.After-map-in-Some-1)
    → Becomes (by_bytes c.args.map.now.entries)
    (by_bytes (c.get_mut.follows.lender c.serve_lent.new.cells).entries)
    (uid_of c.args.request.call) c.in-Some.cells.now c.serve_lent.new.cells
changes c = subst (λ uid. Becomes (by_bytes c.args.map.now.entries)
    (by_bytes (c.get_mut.follows.lender c.serve_lent.new.cells).entries) uid c.in-Some.cells.now
    c.serve_lent.new.cells)
    (c.as_str.ensures.value ∙ c.uid_of.ensures)
    (becomes c.as_str.result.now c.args.map.now (c.get_mut.follows.lender c.serve_lent.new.cells)
    c.in-Some.cells.now c.serve_lent.new.cells
    (sym c.get_mut.ensures.value ∙ ap option_copied_mut c.in-Some.is)
    (c.get_mut.follows.holds c.serve_lent.new.cells))

pub returns-in-Some-clause-lent : goal.returns-in-Some-clause-lent
returns-in-Some-clause-lent c =
    let Served = Lends c.args.registry.now c.serve_lent.new.self c.args.request.call c.args.files
    c.serve_lent.result.answer in
    subst (λ l. Served l (list_in (by_bytes (c.get_mut.follows.lender c.serve_lent.new.cells).entries)
    (uid_of c.args.request.call))) (sym (changes c).was)
    (subst (λ l. Served (Some c.in-Some.cells.now) l) (sym (changes c).is)
    (record {
      row = c.serve_lent.ensures.row;
      spares = c.serve_lent.ensures.spares;
      keeps =
          c.serve_lent.ensures.keeps;
    }))

pub returns-in-Some-clause-others : goal.returns-in-Some-clause-others
returns-in-Some-clause-others c = (changes c).others

pub returns-in-None-clause-lent : goal.returns-in-None-clause-lent
returns-in-None-clause-lent c =
    let uid = uid_of c.args.request.call in
    let old = by_bytes c.args.map.now.entries in
    let same = c.as_str.ensures.value ∙ c.uid_of.ensures in
    let none = subst (λ u. list_in old u ≡ None) same
    (no_list c.as_str.result.now c.args.map.now (sym c.get_mut.ensures.value
    ∙ ap option_copied_mut c.in-None.is)) in
    let later = ap (λ m. list_in (by_bytes m.entries) uid) c.get_mut.follows.holds-at-none ∙ none in
    let served = c.serve_lent-in-None in
    subst (λ l. Lends c.args.registry.now served.new.self c.args.request.call c.args.files
    served.result.answer l (list_in (by_bytes c.get_mut.follows.lender-at-none.entries) uid)) (sym none) (
      later,
      (
        served.new.cells,
        subst (λ (cells : List Cell). LendsTo c.args.registry.now served.new.self c.args.request.call
            c.args.files served.result.answer cells served.new.cells) c.new-none.ensures
            (record {
              row = served.ensures.row;
              spares = served.ensures.spares;
              keeps =
                  served.ensures.keeps;
            }),
      ),
    )
