-- A legal history, as a run of the node.
use Rattle.std.proofs.Common.{◌≡◌, List, [], ◌∷◌, ◌++◌, append_assoc, refl, sym, inl}
use Rattle.std.specs.Prelude.{reverse}
use Rattle.std.proofs.lemmas.List.{append-nil, reverse-append}
use Rattle.worker_pod.specs.declared.settings.Settings.{Settings}
use Rattle.worker_core.specs.Laws.{IsNodeRun, NodeLink, node_now}
use Rattle.worker_core.specs.Nodes.{NodeState, empty_node}
use Rattle.node_lock.specs.declared.entries.Entry.{Entry}
use Rattle.node_lock.specs.Histories.{IsLegal, IsRunOf, Leads, Tells}

-- the links of a history that continues after other links
abbrev pub Goes : Settings → List NodeLink → List Entry → Type 0
Goes settings before es = (links : List NodeLink) × IsNodeRun settings (links ++ before)
    × Tells (reverse links) es

goes_on : (settings : Settings) (es : List Entry) (before : List NodeLink) (first last : NodeState)
    → first ≡ node_now settings before → IsNodeRun settings before → Leads first es last
    → Goes settings before es
goes_on settings [] before first last is run leads = ([], run, tt)
goes_on settings (e ∷ es) before first last is run leads =
    let link : NodeLink = record { old = first; event = e.event; answer = e.answer; new = leads.0 } in
    let rest : Goes settings (link ∷ before) es =
    goes_on settings es (link ∷ before) leads.0 last refl (is, inl leads.1, run) leads.2 in (
      rest.0 ++ link ∷ [],
      rw (append_assoc rest.0 (link ∷ []) before) rest.1,
      rw (reverse-append rest.0 (link ∷ [])) (refl, refl, rest.2),
    )

pub is_run : (settings : Settings) (history : List Entry) → IsLegal settings history
    → IsRunOf settings history
is_run settings history legal =
    let goes : Goes settings [] history = goes_on settings history []
    (empty_node settings) legal.0 refl tt legal.1 in
    (goes.0, rw (sym (append-nil goes.0)) goes.1, goes.2)
