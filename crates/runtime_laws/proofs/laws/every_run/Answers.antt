use Rattle.runtime_laws.proofs.Every.{run_laws}
use Rattle.runtime_laws.proofs.Links.{link_laws}
use Rattle.runtime_laws.proofs.laws.every_run.Goals as goal

pub returns-clause-run : goal.returns-clause-run
returns-clause-run c = run_laws
    (record {
      same = c.cells_only_grow.ensures.same;
      later = c.cells_only_grow.ensures.later;
      started = c.cells_only_grow.ensures.started;
      stepped = c.cells_only_grow.ensures.stepped;
      killed = c.cells_only_grow.ensures.killed;
    })
    (record {
      started = c.cells_follow_their_scripts.ensures.started;
      stepped = c.cells_follow_their_scripts.ensures.stepped;
      killed = c.cells_follow_their_scripts.ensures.killed;
    })
    (record {
      taken = c.calls_are_judged_by_all_filters.ensures.taken;
      added = c.calls_are_judged_by_all_filters.ensures.added;
      start_binds = c.calls_are_judged_by_all_filters.ensures.start_binds;
      one = c.stacks_judge_every_call.ensures.one;
    })

pub returns-clause-link : goal.returns-clause-link
returns-clause-link c = link_laws (record {
  same = c.cells_only_grow.ensures.same;
  later = c.cells_only_grow.ensures.later;
  started = c.cells_only_grow.ensures.started;
  stepped = c.cells_only_grow.ensures.stepped;
  killed = c.cells_only_grow.ensures.killed;
})
