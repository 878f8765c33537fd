use Rattle.fault_notes.proofs.Noted.{says}
use Rattle.fault_notes.proofs.notes.place_line.Goals as goal

pub returns : goal.returns
returns c = says c.format.result c.args.place.now c.args.fault c.args.shown c.wanted_at-wanted.result.now
    c.format.ensures.ok
