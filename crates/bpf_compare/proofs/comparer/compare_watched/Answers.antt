use Rattle.bpf_compare.proofs.Waiting.{splits, next, done, emptied, no_doubt, says}
use Rattle.bpf_compare.proofs.comparer.compare_watched.Goals as goal
use Rattle.bpf_compare.proofs.comparer.compare_watched.Goals.{in-Agrees, in-Unclear}

pub loop-preserved-in-Splits : goal.loop-preserved-in-Splits
loop-preserved-in-Splits g c = λ sure call is.
    rw c.in_ok-push-in-Splits.ensures.items
    (splits _ _ call c.loop.path c.advance.new.self c.in-Splits.other c.loop.waiting.items
    (rw c.in-Splits.is at (c.in_ok-advance.ensures.becomes call is)) (c.loop.invariant sure call is))

pub loop-preserved : goal.loop-preserved
loop-preserved g c = λ sure call is.
    let none = no_doubt c.match-branch-3.ended c.loop.doubt c.or-doubt.result c.or-doubt.ensures sure in
    elim c.match-branch-3.branch [
      | in-Agrees w ↦
          next _ _ call c.loop.path c.in-Some.next c.pop.new.self.items
          (rw w.in-Agrees.is at (c.in_ok-advance.ensures.becomes call is))
          (rw c.in-Some.ensures.items at (c.loop.invariant none.1 call is))
      | in-Unclear w ↦ absurd (cc (w.ended-is, none.0))
    ]

pub returns-in-None : goal.returns-in-None
returns-in-None g c = says c.args.scope c.args.first.now c.args.second.now _ _ c.ending.ensures.told
    c.ending.ensures.none (λ sure call is.
    let none = no_doubt c.match-branch-3.ended c.loop.doubt c.or-doubt.result c.or-doubt.ensures sure in
    let empty = emptied c.loop.waiting.items c.pop.new.self.items _ c.in-None.ensures.cases.0
    c.in-None.ensures.items c.in-None.ensures.rest in
    elim c.match-branch-3.branch [
      | in-Agrees w ↦
          done _ _ call c.loop.path
          (rw w.in-Agrees.is at (c.in_ok-advance.ensures.becomes call is))
          (rw empty at (c.loop.invariant none.1 call is))
      | in-Unclear w ↦ absurd (cc (w.ended-is, none.0))
    ])
