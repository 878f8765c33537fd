use Rattle.std.proofs.Common.{◌≡◌, ◌∙◌, sym, ap, refl, map, option_map, subst}
use Rattle.registry.specs.declared.stage.Stage.TheVariants as stage
use Rattle.registry.specs.Kept.{known_in, stage_of, stopped}
use Rattle.registry.specs.Runtime.{id_of}
use Rattle.registry.specs.Stands.{IsEmptyIn}
use Rattle.registry.proofs.Agreeing.{keeps_ids, stopped_any}
use Rattle.registry.proofs.Ids.{ids_ended}
use Rattle.registry.proofs.registry.Registry.stop_pod.Goals as goal

pub returns-in-Live-clause-keeps : goal.returns-in-Live-clause-keeps
returns-in-Live-clause-keeps c =
    let here = subst (λ u. known_in c.stop.new.self u ≡ option_map stopped (known_in c.args.self.now.uids u))
    c.as_str-in-Live.ensures.value c.stop.ensures.here in
    let live = subst (λ u. stage_of (known_in c.args.self.now.uids u) ≡ stage.Live c.in-Live.ready)
    c.as_str.ensures.value (sym c.stage.ensures ∙ c.in-Live.is) in
    keeps_ids _ _ _ _ _ refl refl (ap (map id_of) c.kill_all.ensures
    ∙ ids_ended c.code_of_grace.result c.args.cells.now)
    (λ _. subst (λ k. IsEmptyIn (stage_of k) c.kill_all.new.self) (sym here)
    (stopped_any (known_in c.args.self.now.uids c.args.uid.now) c.in-Live.ready c.kill_all.new.self live))
