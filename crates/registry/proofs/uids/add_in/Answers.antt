use Rattle.std.proofs.Common.{◌∙◌, sym, ap}
use Rattle.std.specs.Option.{option_copied_mut}
use Rattle.registry.specs.Kept.{with_used}
use Rattle.registry.proofs.Changed.{changes_none, changes_some}
use Rattle.registry.proofs.uids.add_in.Goals as goal

pub returns-in-None-clause-ok : goal.returns-in-None-clause-ok
returns-in-None-clause-ok c = changes_none c.args.uid.now c.args.map.now c.get_mut.follows.lender-at-none
    (with_used c.args.container) c.get_mut.follows.holds-at-none
    (sym c.get_mut.ensures.value ∙ ap option_copied_mut c.in-None.is)

pub returns-in-Ok-clause-ok : goal.returns-in-Ok-clause-ok
returns-in-Ok-clause-ok c = changes_some c.args.uid.now c.args.map.now
    (c.get_mut.follows.lender c.add.new.self) c.in-Some.known.now c.add.new.self (with_used c.args.container)
    (sym c.get_mut.ensures.value ∙ ap option_copied_mut c.in-Some.is) c.in-Ok.ensures.ok
    (c.get_mut.follows.holds c.add.new.self)

pub returns-in-Err-clause-err : goal.returns-in-Err-clause-err
returns-in-Err-clause-err c = changes_some c.args.uid.now c.args.map.now
    (c.get_mut.follows.lender c.add.new.self) c.in-Some.known.now c.add.new.self (λ k. k)
    (sym c.get_mut.ensures.value ∙ ap option_copied_mut c.in-Some.is) c.in-Err.ensures.err
    (c.get_mut.follows.holds c.add.new.self)
