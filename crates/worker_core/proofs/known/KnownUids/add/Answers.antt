use Rattle.std.proofs.Common.{ap, ◌∙◌, map}
use Rattle.std.specs.String.{string_bytes}
use Rattle.worker_core.proofs.Texts.{texts_with}
use Rattle.worker_core.specs.Known.{with_uid}
use Rattle.worker_core.proofs.known.KnownUids.add.Goals as goal

pub returns-clause-ok : goal.returns-clause-ok
returns-clause-ok c = ap (map string_bytes) c.in_ok-insert.ensures.keys ∙ texts_with c.args.text _
    ∙ ap (with_uid (string_bytes c.args.text)) c.self.view_is
