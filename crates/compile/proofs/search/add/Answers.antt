use Rattle.compile.proofs.Finding.{insert_rises, insert_value}
use Rattle.compile.proofs.search.add.Goals as goal

pub returns-in_ok-insert-clause-rising : goal.returns-in_ok-insert-clause-rising
returns-in_ok-insert-clause-rising c = rw (c.in_ok-insert.ensures.items)
    (insert_rises c.as_slice.result.now c.args.points.now.items c.in-Some.at
    (record { number = c.args.number; value = c.args.value }) c.as_slice.ensures.value c.requires.rising
    c.in-Some.ensures.fits)

pub returns-in_ok-insert-clause-same : goal.returns-in_ok-insert-clause-same
returns-in_ok-insert-clause-same c = λ arg other. rw (c.in_ok-insert.ensures.items)
    (insert_value c.as_slice.result.now c.args.points.now.items c.in-Some.at
    (record { number = c.args.number; value = c.args.value }) arg other c.as_slice.ensures.value
    c.in-Some.ensures.fits)
