use Rattle.compile.proofs.Common.{◌<◌, arith}
use Rattle.std.proofs.lemmas.List.Elements.{All-more}
use Rattle.compile.proofs.Finding.{fits_here, fits_last, no_point, there_already}
use Rattle.compile.proofs.search.place_for.Goals as goal

pub returns-then-point-number-clause-there : goal.returns-then-point-number-clause-there
returns-then-point-number-clause-there c = λ arg value other.
    there_already c.args.points.now c.loop-at.at no_point arg c.args.number value other c.loop-at-test.true
    c.if-point-number.true

pub returns-then-point-number-2-clause-fits : goal.returns-then-point-number-2-clause-fits
returns-then-point-number-2-clause-fits c =
    fits_here c.args.points.now c.loop-at.at c.args.number no_point c.requires c.loop-at-test.true
    c.if-point-number-2.true c.loop-at.invariant

pub loop-at-preserved : goal.loop-at-preserved
loop-at-preserved c =
    All-more (λ point. point.number < c.args.number) c.args.points.now c.loop-at.at no_point
    c.loop-at-test.true c.loop-at.invariant
    (omega (arith, c.if-point-number.false, c.if-point-number-2.false))

pub returns-clause-fits : goal.returns-clause-fits
returns-clause-fits c =
    fits_last c.args.points.now c.loop-at.at c.args.number (omega (arith, c.loop-at-test.false))
    c.loop-at.invariant
