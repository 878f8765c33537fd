use Rattle.script.proofs.Found.{found}
use Rattle.script.proofs.First.{only, told}
use Rattle.script.proofs.reader.read_placed_with.Goals as goal

pub returns-clause-found : goal.returns-clause-found
returns-clause-found c = found c.args.calls c.args.bytes.now _ c.reading.ensures

pub returns-clause-only : goal.returns-clause-only
returns-clause-only c = λ steps is. only c.args.calls c.written_is_read.ensures.alone c.args.bytes.now _ steps
    c.reading.ensures is

pub returns-clause-told : goal.returns-clause-told
returns-clause-told c = λ found first. told c.args.calls c.args.bytes.now _ found c.reading.ensures first
