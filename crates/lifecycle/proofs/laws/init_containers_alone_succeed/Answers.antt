use Rattle.std.proofs.Common.{◌≡◌, true, refl}
use Rattle.lifecycle.specs.declared.track.Track.{Track}
use Rattle.lifecycle.specs.Phases.{are_finished, are_succeeded}
use Rattle.lifecycle.specs.Tracks.{is_finished, is_succeeded}
use Rattle.lifecycle.proofs.Rows.{all_either}
use Rattle.lifecycle.proofs.laws.init_containers_alone_succeed.Goals as goal

pub returns : goal.returns
returns c policy lost tracks inits none =
    let finished : are_finished policy tracks ≡ true =
    all_either (λ (t : Track). t.init) (is_finished policy) tracks inits in
    let succeeded : are_succeeded policy tracks ≡ true =
    all_either (λ (t : Track). t.init) (is_succeeded policy) tracks inits in
    rw (none, finished, succeeded) refl
