-- The contents that the steps keep.
use Rattle.std.proofs.Common.{string_bytes, subst}
use Rattle.host_io.specs.Places.{KeepsOthers, Moves}
use Rattle.host_io.proofs.Spared.{others_more, spares_moved, spares_others}
use Rattle.host_io.proofs.whole_file.put_whole.Goals as goal

pub returns-in-Ok-clause-others : goal.returns-in-Ok-clause-others
returns-in-Ok-clause-others g c =
    spares_moved c.args.path.now (string_bytes c.in_ok-name.name) _ _ _ c.in_ok-name.ensures.free
    c.in_ok-name.ensures.others
    (subst (λ at. Moves at c.args.path.now (g.D.Disk.held c.write_beside.new.disk) (g.D.Disk.held
    c.rename.new.self))
    c.as_str.ensures.value c.in-Ok.ensures.moved)

pub returns-clause-others : goal.returns-clause-others
returns-clause-others g c =
    let old = g.D.Disk.held c.args.disk.now in
    let written = g.D.Disk.held c.write_beside.new.disk in
    let same = g.D.Disk.held c.rename.new.self in
    let left = g.D.Disk.held c.remove.new.self in
    let name = string_bytes c.in_ok-name.name in
    spares_others c.args.path.now name old _ c.in_ok-name.ensures.free
    (others_more name old written _ c.in_ok-name.ensures.others
    (others_more name written same _ (λ other _. c.in-Err.ensures.kept other)
    (subst (λ at. KeepsOthers at same left) c.as_str-in-Err.ensures.value c.remove.ensures.others)))
