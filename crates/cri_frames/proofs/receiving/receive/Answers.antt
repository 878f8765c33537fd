use Rattle.cri_frames.proofs.NotReceived.{not_received}
use Rattle.cri_frames.proofs.receiving.receive.Goals as goal

pub returns-clause-lost : goal.returns-clause-lost
returns-clause-lost g c =
    not_received c.args.version c.in_ok-count.count _ _ _ _ _ _ c.in_ok-count.ensures.fits
    c.in_ok-count.ensures.taken c.read_head.ensures.counted c.read_text.result c.read_text.ensures.lost
