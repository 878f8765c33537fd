use Rattle.std.proofs.Common.{sym, ◌∙◌, true≢false}
use Rattle.wrong_files.specs.Hints.{Suits}
use Rattle.wrong_files.proofs.Places.{places_read, places_all}
use Rattle.wrong_files.proofs.hints.first_that_suits.Goals as goal

pub loop-at-preserved : goal.loop-at-preserved
loop-at-preserved c =
    places_read (λ hint. ¬ Suits c.args.bytes.now hint) c.args.hints.now c.loop-at.at _ c.loop-at.invariant
    c.loop-at-test.true (λ suits. true≢false (sym (c.in_ok-suits.ensures.1 suits) ∙ c.if-branch.false))

pub returns : goal.returns
returns c = places_all (λ hint. ¬ Suits c.args.bytes.now hint) c.args.hints.now c.loop-at.at
    c.loop-at.invariant c.loop-at-test.false
