use Rattle.manifest.specs.Reading.{policy_of}
use Rattle.manifest.proofs.heads.policy.Goals as goal

pub returns : goal.returns
unfolding policy_of
returns c = rw (← c.optional_text.ensures, c.in_ok-optional_text.was) c.policy_there.ensures
