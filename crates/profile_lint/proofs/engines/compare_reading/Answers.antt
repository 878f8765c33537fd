use Rattle.std.proofs.Common.{[], ◌∷◌, subst}
use Rattle.profile_lint.specs.Readings.{in_queue}
use Rattle.profile_lint.specs.Sameness.{Says}
use Rattle.profile_lint.proofs.Alike.{queue_alike}
use Rattle.profile_lint.proofs.engines.compare_reading.Goals as goal

pub returns-in-Same : goal.returns-in-Same
returns-in-Same c =
    let profile = c.args.profile.now in
    let engines = c.args.engines.now in
    let entry = c.args.entry.now in
    queue_alike profile engines c.args.place entry c.requires.read c.requires.at
    (subst (λ s. Says s (in_queue profile engines c.args.place entry (entry ∷ []))
    (in_queue profile engines c.args.place entry [])) c.in-Same.is c.in_ok-decided_otherwise.ensures)
