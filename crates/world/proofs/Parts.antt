-- The node's part of a run of the world is a run of a node, and the runtime's is one of a runtime.
use Rattle.std.proofs.Common.{◌≡◌, inr, ℕ, List, [], ◌∷◌, Option, Some, None, refl, sym, ◌∙◌, ap}
use Rattle.bpf_code.specs.declared.insn.Insn.{Insn}
use Rattle.cri_msgs.specs.declared.keys.Key.{Key}
use Rattle.runtime_laws.specs.Runs.{IsRun, Link, now}
use Rattle.registry.specs.Runtime.{In}
use Rattle.worker_pod.specs.declared.settings.Settings.{Settings}
use Rattle.worker_core.specs.Laws.{Happened, IsNodeRun, NodeLink, node_now}
use Rattle.world.specs.Laws.{EndedWith}
use Rattle.world.specs.World.{Event, IsWorldRun, WorldLink, WorldState, WorldStep, behind, node_link}
use Rattle.world.specs.World.{node_part, runtime_link, runtime_part, world_now}
use Rattle.world.specs.World.Event.{Acted, Served, Reported, Lost, Stepped, Killed}

pub record Parts (settings : Settings) (baseline : Option (List Insn)) (ls : List WorldLink) : Type 0 where
  pub node : IsNodeRun settings (node_part ls)
  pub node_is : node_now settings (node_part ls) ≡ (world_now settings baseline ls).node
  pub runtime : IsRun baseline (runtime_part ls)
  pub runtime_is : now baseline (runtime_part ls) ≡ (world_now settings baseline ls).runtime

module _ (settings : Settings) (baseline : Option (List Insn)) (ls : List WorldLink) (old : WorldState)
    (from : old ≡ world_now settings baseline ls) (p : Parts settings baseline ls) where
  node_from : old.node ≡ node_now settings (node_part ls)
  node_from = ap (λ (w : WorldState). w.node) from ∙ sym p.node_is

  runtime_from : old.runtime ≡ now baseline (runtime_part ls)
  runtime_from = ap (λ (w : WorldState). w.runtime) from ∙ sym p.runtime_is

  node_stays : (new : WorldState) → new.node ≡ old.node → node_now settings (node_part ls) ≡ new.node
  node_stays new same = sym node_from ∙ sym same

  runtime_stays : (new : WorldState) → new.runtime ≡ old.runtime
      → now baseline (runtime_part ls) ≡ new.runtime
  runtime_stays new same = sym runtime_from ∙ sym same

  pub parts_more : (event : Event) (new : WorldState) → WorldStep old event new
      → Parts settings baseline (record { old = old; event = event; new = new } ∷ ls)
  parts_more (Acted act answer) new step =
      record {
        node = (node_from, step.node, p.node);
        node_is = refl;
        runtime = p.runtime;
        runtime_is =
            runtime_stays new step.runtime;
      }
  parts_more (Served which request files reply) new step =
      record {
        node = p.node;
        node_is = node_stays new step.node;
        runtime =
            (runtime_from, step.runtime, p.runtime);
        runtime_is = refl;
      }
  parts_more (Reported worker which exchange answer) new step =
      record {
        node = (node_from, step.node, p.node);
        node_is = refl;
        runtime = p.runtime;
        runtime_is =
            runtime_stays new step.runtime;
      }
  parts_more (Lost worker answer) new step =
      record {
        node = (node_from, step.node, p.node);
        node_is = refl;
        runtime = p.runtime;
        runtime_is =
            runtime_stays new step.runtime;
      }
  parts_more (Stepped id did) new step =
      record {
        node = p.node;
        node_is = node_stays new step.1.node;
        runtime =
            (runtime_from, step.0, p.runtime);
        runtime_is = refl;
      }
  parts_more (Killed id code) new step =
      record {
        node = p.node;
        node_is = node_stays new step.1.node;
        runtime =
            (runtime_from, step.0, p.runtime);
        runtime_is = refl;
      }

pub parts : (settings : Settings) (baseline : Option (List Insn)) (ls : List WorldLink)
    → IsWorldRun settings baseline ls → Parts settings baseline ls
parts settings baseline [] run = record { node = tt; node_is = refl; runtime = tt; runtime_is = refl }
parts settings baseline (l ∷ ls) run = parts_more settings baseline ls l.old run.0
    (parts settings baseline ls run.2) l.event l.new run.1

-- a longer run has what a shorter one had
happened_behind : (P : NodeLink → Type 0) (o : Option NodeLink) (ls : List NodeLink) → Happened P ls
    → Happened P (behind o ls)
happened_behind P None ls h = h
happened_behind P (Some l) ls h = inr h

pub happened_more : (P : NodeLink → Type 0) (l : WorldLink) (ls : List WorldLink) → Happened P (node_part ls)
    → Happened P (node_part (l ∷ ls))
happened_more P l ls h = happened_behind P (node_link l) (node_part ls) h

in_behind : (x : Link) (o : Option Link) (ls : List Link) → In x ls → In x (behind o ls)
in_behind x None ls i = i
in_behind x (Some l) ls i = inr i

pub in_more : (x : Link) (l : WorldLink) (ls : List WorldLink) → In x (runtime_part ls)
    → In x (runtime_part (l ∷ ls))
in_more x l ls i = in_behind x (runtime_link l) (runtime_part ls) i

pub ended_more : (l : WorldLink) (ls : List WorldLink) (key : Key) (code : ℕ) → EndedWith ls key code
    → EndedWith (l ∷ ls) key code
ended_more l ls key code e = record {
  cell = e.cell;
  seen =
      (e.seen.0, in_more e.seen.0 l ls e.seen.1, e.seen.2);
  killed = e.killed;
  ended = e.ended;
}
