use Rattle.host_io.specs.Places.{KeepsAll}
use Rattle.host_io.proofs.whole_file.write_beside.Given as goal

abbrev pub invariant-loop-number : goal.invariant-loop-number
invariant-loop-number g l = KeepsAll (g.D.Disk.held l.fn.disk) (g.D.Disk.held l.disk)
