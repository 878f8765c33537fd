-- What a round has asked for so far.
use Rattle.std.proofs.Common.{◌≡◌, ◌-◌, ◌^◌, ◌++◌, List}
use Rattle.std.specs.Option.{option_map}
use Rattle.runner.specs.Rounds.{Asked, AreVisits, last_of, seen_after, went_on}
use Rattle.runner.proofs.rounds.round.Given as goal

abbrev pub invariant-loop-visit : goal.invariant-loop-visit
invariant-loop-visit g l = record {
  asked : List Asked;
  are : AreVisits g.B.Node.filter (g.V.Visits.runner l.fn.visits) (g.V.Visits.runners l.fn.visits)
      l.fn.me asked;
  seen : l.me ≡ seen_after l.fn.me asked;
  last : l.last ≡ last_of asked;
  went : l.went_on ≡ went_on asked;
  runner : g.V.Visits.runner l.visits ≡ g.V.Visits.runner l.fn.visits;
  runners : g.V.Visits.runners l.visits ≡ g.V.Visits.runners l.fn.visits;
  kept : g.V.Visits.asked l.visits ≡ option_map (λ before. asked ++ before) (g.V.Visits.asked l.fn.visits);
}

abbrev pub decreases-loop-visit : goal.decreases-loop-visit
decreases-loop-visit g l = 2 ^ 64 - l.last
