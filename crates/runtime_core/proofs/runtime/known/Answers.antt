use Rattle.runtime_core.proofs.Stays.{runs_still}
use Rattle.runtime_core.proofs.There.{Done, done}
use Rattle.registry.specs.Stands.{around_in, part_in}
use Rattle.cri_msgs.specs.Calls.{uid_of}
use Rattle.runtime_core.proofs.runtime.known.Goals as goal

all : (c : goal.After-lend) → Done c.args.registry.now c.lend.new.registry c.args.lists.now c.lend.new.self
    c.args.request.call c.args.files c.lend.result.answer
all c = done c.args.registry.now c.lend.new.registry c.args.lists.now c.lend.new.self c.args.request.call
    c.args.files c.lend.result.answer c.requires.whole c.lend.ensures.others
    (λ before behind lent. runs_still (around_in c.args.registry.now) c.args.request.call c.args.files
    (part_in c.args.registry.now (uid_of c.args.request.call) before)
    (part_in c.lend.new.registry (uid_of c.args.request.call) behind) c.lend.result.answer c.requires.runs
    c.requires.named lent.row)
    c.lend.ensures.lent

pub returns-clause-serves : goal.returns-clause-serves
returns-clause-serves c = (all c).does

pub returns-clause-whole : goal.returns-clause-whole
returns-clause-whole c = (all c).still
