use Rattle.runtime_server.proofs.Seen.{known_last}
use Rattle.runtime_server.proofs.templates.SeenProfiles.add.Goals as goal

pub returns : goal.returns
returns c = rw c.in_ok-push.ensures.items (known_last _ c.args.seen)
