use Rattle.compile.proofs.Common.{arith}
use Rattle.compile.proofs.Gathering.{equal_same}
use Rattle.compile.proofs.search.equality.Goals as goal

pub returns-in-Equal-clause-same : goal.returns-in-Equal-clause-same
returns-in-Equal-clause-same c = λ call.
    equal_same c.args.entry.now call c.as_slice-conds.result.now c.args.index c.as_slice-conds.ensures.value
    (omega arith) c.in-Equal.is (omega (arith, c.from.ensures, c.if-from-index.false))
