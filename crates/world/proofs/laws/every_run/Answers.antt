use Rattle.world.proofs.Every.{world_laws, world_link_laws}
use Rattle.world.proofs.laws.every_run.Goals as goal

pub returns-clause-run : goal.returns-clause-run
returns-clause-run c = world_laws c.every_run.ensures.run c.every_run.ensures.link c.every_run-2.ensures.run
    c.every_run-2.ensures.link

pub returns-clause-link : goal.returns-clause-link
returns-clause-link c = world_link_laws c.every_run.ensures.run c.every_run.ensures.link
    c.every_run-2.ensures.run c.every_run-2.ensures.link
