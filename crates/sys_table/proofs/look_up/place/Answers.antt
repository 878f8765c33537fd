use Rattle.std.proofs.Common.{rules, [], Ok, Err, sym, ap, Some, slice_index_or, ◌∙◌}
use Rattle.std.specs.Cmp.Lexicographic.{slice_cmp}
use Rattle.std.specs.Ordering.{nat_cmp}
use Rattle.std.proofs.lemmas.Fn.{always_returns_same}
use Rattle.sys_table.specs.SysTable.{names}
use Rattle.sys_table.proofs.TableRules.{looked_up}
use Rattle.sys_table.proofs.look_up.place.Goals as goal

-- the closure compares the text at a number with the name
pub returns-in-Ok : goal.returns-in-Ok
returns-in-Ok c =
    let found = c.in-Ok.ensures.position (λ n. slice_cmp nat_cmp (slice_index_or names n []) c.args.name.now)
    (always_returns_same _ _ _ (λ a r g called. search rules)) in
    ap Some c.from.ensures ∙ sym (looked_up _ c.args.name.now (Ok c.in-Ok.place) c.by_name-numbers.ensures
    c.in-Ok.ensures.bound found)

pub returns-in-Err : goal.returns-in-Err
returns-in-Err c =
    let absent = c.in-Err.ensures.position (λ n. slice_cmp nat_cmp (slice_index_or names n []) c.args.name.now)
    (always_returns_same _ _ _ (λ a r g called. search rules)) in
    sym (looked_up _ c.args.name.now (Err c.in-Err.field-0) c.by_name-numbers.ensures c.in-Err.ensures.bound
    absent)
