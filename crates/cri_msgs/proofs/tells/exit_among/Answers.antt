use Rattle.std.proofs.Common.{◌≡◌}
use Rattle.std.specs.List.{Any}
use Rattle.cri_msgs.specs.Tells.{IsExitOf}
use Rattle.cri_msgs.proofs.Exits.{silent_pair}
use Rattle.cri_msgs.proofs.tells.exit_among.Goals as goal

pub returns-then-eq-clause-silent : goal.returns-then-eq-clause-silent
returns-then-eq-clause-silent c =
    silent_pair (c.args.uid.now ≡ c.args.key.now.uid) (λ code.
    Any (IsExitOf c.args.key.now.container code) c.args.list.now) c.exit_listed.result
    (rw (← c.as_slice.ensures.value) c.exit_listed.ensures.silent)
