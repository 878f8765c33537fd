use Rattle.std.proofs.Common.{[]}
use Rattle.world.proofs.machine.World.new.Goals as goal

pub invariant_of-result : goal.invariant_of-result
invariant_of-result c = record {
  settings = c.args.settings;
  baseline = c.args.baseline;
  links = [];
  run = tt;
  stands = record {
    node = c.new.ensures.empty;
    runtime = c.new-2.ensures;
    sent = c.new-3.ensures.items;
    given = c.new-4.ensures.items;
  };
}
