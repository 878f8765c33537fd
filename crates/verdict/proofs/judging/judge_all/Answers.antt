use Rattle.std.proofs.Common.{◌≡◌, arith, ap, subst, take, take_all, List}
use Rattle.action.specs.declared.verdict.Verdict.{Verdict}
use Rattle.action.specs.Verdict.{rank_of}
use Rattle.bpf_code.specs.declared.insn.Insn.{Insn}
use Rattle.verdict.specs.Stack.{IsJudged}
use Rattle.verdict.proofs.Chosen.{rank_of_value, take_more, judged_stays, judged_changes}
use Rattle.verdict.proofs.judging.judge_all.Goals as goal
use Rattle.verdict.proofs.judging.judge_all.Goals.{then-rank, else-rank}

pub loop-filter-preserved : goal.loop-filter-preserved
loop-filter-preserved c =
    let seen : List (List Insn) = take c.loop-filter.filter-index c.args.filters.now in
    let more = take_more c.args.filters.now c.loop-filter.filter-index c.filter-item.result
    c.loop-filter-test.true c.filter-item.is in
    let rank : rank_of c.of_value-verdict.result.action ≡ rank_of_value c.run.result.value =
    ap (λ (v : Verdict). rank_of v.action) c.of_value-verdict.ensures in
    elim c.if-rank.branch [
      | then-rank w ↦ rw (more, w.best-is, c.of_value-verdict.ensures)
          (judged_changes seen c.filter-item.result c.args.call.now c.loop-filter.best c.run.result.value
          c.run.result.steps
          c.loop-filter.invariant c.run.ensures.run
          (omega (arith, rank, c.rank.ensures, c.rank-in-loop-filter.ensures, w.if-rank.true)))
      | else-rank w ↦ rw (more, w.best-is) (judged_stays seen c.filter-item.result c.args.call.now
          c.loop-filter.best c.run.result.value c.run.result.steps c.ranks_are_an_order.ensures.below
          c.loop-filter.invariant c.run.ensures.run
          (omega (arith, rank, c.rank.ensures, c.rank-in-loop-filter.ensures, w.if-rank.false)))
    ]

pub returns : goal.returns
returns c =
    let whole : take c.loop-filter.filter-index c.args.filters.now ≡ c.args.filters.now =
    take_all c.loop-filter.filter-index c.args.filters.now c.loop-filter-test.false in
    let P : List (List Insn) → Type 0 = λ stack. IsJudged stack c.args.call.now c.loop-filter.best in
    subst P whole c.loop-filter.invariant
