use Rattle.std.proofs.Common.{ℕ, List, ap, ◌∙◌, map}
use Rattle.std.specs.String.{string_bytes}
use Rattle.worker_core.proofs.Texts.{known_texts}
use Rattle.worker_core.specs.Known.{is_known}
use Rattle.worker_core.proofs.known.KnownUids.has.Goals as goal

pub returns : goal.returns
returns c =
    c.contains.ensures
    ∙ known_texts c.as_str.result.now c.self.inside.texts.keys
    ∙ ap (λ (uid : List ℕ). is_known uid (map string_bytes c.self.inside.texts.keys)) c.as_str.ensures.value
    ∙ ap (is_known c.args.uid.now) c.self.view_is
