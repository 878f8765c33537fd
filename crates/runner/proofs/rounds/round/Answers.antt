use Rattle.std.proofs.Common.{◌∷◌, Some, refl, ◌∙◌}
use Rattle.runner.specs.Rounds.{Asked}
use Rattle.runner.proofs.Throughout.{each_steps}
use Rattle.runner.proofs.Visits.{kept_more, now, of_share, still, visits_more}
use Rattle.runner.proofs.rounds.round.Goals as goal

pub loop-visit-preserved-then-went_on : goal.loop-visit-preserved-then-went_on
loop-visit-preserved-then-went_on g c =
    let so = c.loop-visit.invariant in
    let old = c.loop-visit.me in
    let new = c.visit.new.me in
    let one : Asked = record {
      above = c.loop-visit.last;
      visit = Some c.in-Some.visit;
      old = old;
      new =
          new;
    } in
    record {
      asked = one ∷ so.asked;
      are = visits_more _ _ _ c.loop-visit.last c.in-Some.visit _ old new so.asked so.last so.seen
          (of_share _ _ _ _ _ one so.runner so.runners c.in-Some.ensures.may) so.are;
      seen = refl;
      last = refl;
      went = still _ _ _ c.if-went_on.true so.went;
      runner = c.in-Some.ensures.runner ∙ so.runner;
      runners = c.in-Some.ensures.runners ∙ so.runners;
      kept = kept_more _ _ _ one so.asked c.in-Some.ensures.asked so.kept;
    }

pub loop-visit-preserved : goal.loop-visit-preserved
loop-visit-preserved g c =
    let so = c.loop-visit.invariant in
    let old = c.loop-visit.me in
    let new = c.visit.new.me in
    let one : Asked = record {
      above = c.loop-visit.last;
      visit = Some c.in-Some.visit;
      old = old;
      new =
          new;
    } in
    record {
      asked = one ∷ so.asked;
      are = visits_more _ _ _ c.loop-visit.last c.in-Some.visit _ old new so.asked so.last so.seen
          (of_share _ _ _ _ _ one so.runner so.runners c.in-Some.ensures.may) so.are;
      seen = refl;
      last = refl;
      went = now _ _ _ c.if-went_on.false so.went;
      runner = c.in-Some.ensures.runner ∙ so.runner;
      runners = c.in-Some.ensures.runners ∙ so.runners;
      kept = kept_more _ _ _ one so.asked c.in-Some.ensures.asked so.kept;
    }

pub returns : goal.returns
returns g c =
    let so = c.loop-visit.invariant in
    let end : Asked = record {
      above = c.loop-visit.last;
      visit = c.visit.result;
      old = c.loop-visit.me;
      new = c.visit.new.me;
    } in (
      end ∷ so.asked,
      record {
        end = end;
        visits = so.asked;
        all = refl;
        none = c.in_default.is;
        behind = so.last;
        begins = so.seen;
        ends = of_share _ _ _ _ _ end so.runner so.runners c.visit.ensures.may;
        are = so.are;
        sees = refl;
        tells = so.went;
        each = each_steps _ _ _ _ end so.asked c.in_default.is so.last so.seen
            (of_share _ _ _ _ _ end so.runner so.runners c.visit.ensures.may) so.are;
      },
      kept_more _ _ _ end so.asked c.visit.ensures.asked so.kept,
    )
