use Rattle.std.proofs.Common.{◌∙◌, sym, ap}
use Rattle.std.specs.Option.{option_copied_mut}
use Rattle.registry.specs.Kept.{stopped}
use Rattle.registry.proofs.Changed.{changes_none, changes_some}
use Rattle.registry.proofs.uids.stop_in.Goals as goal

pub returns-in-None : goal.returns-in-None
returns-in-None c = changes_none c.args.uid.now c.args.map.now c.get_mut.follows.lender-at-none stopped
    c.get_mut.follows.holds-at-none
    (sym c.get_mut.ensures.value ∙ ap option_copied_mut c.in-None.is)

pub returns-in-Some : goal.returns-in-Some
returns-in-Some c = changes_some c.args.uid.now c.args.map.now (c.get_mut.follows.lender c.stop.new.self)
    c.in-Some.known.now c.stop.new.self stopped
    (sym c.get_mut.ensures.value ∙ ap option_copied_mut c.in-Some.is) c.stop.ensures
    (c.get_mut.follows.holds c.stop.new.self)
