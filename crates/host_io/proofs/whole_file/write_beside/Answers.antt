-- The name that was used was free.
use Rattle.std.proofs.Common.{string_bytes, subst, None}
use Rattle.host_io.specs.Places.{IsAt, KeepsOthers}
use Rattle.host_io.proofs.Spared.{free_before, others_more, spares_others}
use Rattle.host_io.proofs.whole_file.write_beside.Goals as goal

pub returns-in-Ok-clause-free : goal.returns-in-Ok-clause-free
returns-in-Ok-clause-free g c =
    free_before c.args.path.now (string_bytes c.in_ok-name.name) _ (g.D.Disk.held c.loop-number.disk)
    c.loop-number.number c.loop-number.invariant
    (subst (λ name. IsAt (g.D.Disk.held c.loop-number.disk) name None) c.as_str.ensures.value
    c.in-Ok.ensures.free)
    c.in_ok-name.ensures c.loop-number-test.true

pub returns-in-Err-Unfinished-clause-spared : goal.returns-in-Err-Unfinished-clause-spared
returns-in-Err-Unfinished-clause-spared g c =
    let old = g.D.Disk.held c.args.disk.now in
    let mid = g.D.Disk.held c.loop-number.disk in
    let made = g.D.Disk.held c.write_new.new.self in
    let name = string_bytes c.in_ok-name.name in
    let left = g.D.Disk.held c.remove.new.self in
    let free = free_before c.args.path.now name old mid c.loop-number.number c.loop-number.invariant
    (subst (λ at. IsAt mid at None) c.as_str.ensures.value (c.in-Err-Unfinished.ensures.unfinished _
    c.in-Err-Unfinished.field-0-is))
    c.in_ok-name.ensures c.loop-number-test.true in
    spares_others c.args.path.now name old _ free
    (others_more name old mid _ (λ other _. c.loop-number.invariant other)
    (others_more name mid made _
    (subst (λ at. KeepsOthers at mid made) c.as_str.ensures.value c.write_new.ensures.others)
    (subst (λ at. KeepsOthers at made left) c.as_str-in-Err-Unfinished.ensures.value
    c.remove.ensures.others)))
