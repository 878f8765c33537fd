-- Histories of a node, as one thread could have made them: this project's own. docs/SEMANTICS.md, "The agent:
-- the history of a node".
use Rattle.std.specs.Prelude.{◌≡◌, ℕ, List, [], ◌∷◌, ◌++◌, length, reverse}
use Rattle.worker_pod.specs.declared.settings.Settings.{Settings}
use Rattle.worker_core.specs.declared.answers.Answer.{Answer}
use Rattle.worker_core.specs.declared.events.AgentEvent.{AgentEvent}
use Rattle.worker_core.specs.Kept.{KeptNode}
use Rattle.worker_core.specs.Nodes.{IsTaken, NodeState, StandsFor, empty_node}
use Rattle.worker_core.specs.Laws.{IsNodeRun, NodeLink}
use Rattle.node_lock.specs.declared.entries.Entry.{Entry}

-- from the first node, each event is taken with the answer of the node's step at that point, and the last
-- node is this one. Out of memory is not such an answer
abbrev pub Leads : NodeState → List Entry → NodeState → Type 0
Leads first [] last = first ≡ last
Leads first (e ∷ es) last = (next : NodeState) × IsTaken first e.event e.answer next × Leads next es last

-- a legal history of a node with these settings, from the empty node
abbrev pub IsLegal : Settings → List Entry → Type 0
IsLegal settings history = (last : NodeState) × Leads (empty_node settings) history last

-- the history is legal, and the kept state stands for the node at its end
abbrev pub EndsAt : Settings → List Entry → KeptNode → Type 0
EndsAt settings history kept = (last : NodeState) × Leads (empty_node settings) history last
    × StandsFor kept last

-- The same for a history that was written in parts: this many entries went before the current ones, and the
-- whole of both is legal, from the empty node.
pub record GoesOn (settings : Settings) (before : ℕ) (history whole : List Entry)
    (kept : KeptNode) : Type 0 where
  pub gone : List Entry
  pub before_is : length gone ≡ before
  pub whole_is : whole ≡ gone ++ history
  pub ends : EndsAt settings whole kept

-- every node that the old state stands for takes the event with this answer, and the new state stands for the
-- next node
abbrev pub IsStep : KeptNode → AgentEvent → Answer → KeptNode → Type 0
IsStep old event answer new = (node : NodeState) → StandsFor old node → (next : NodeState)
    × IsTaken node event answer next × StandsFor new next

-- the links of a run match the history; the newest link is the first
abbrev pub Tells : List NodeLink → List Entry → Type 0
Tells [] [] = Unit {0}
Tells [] (e ∷ es) = ⊥
Tells (l ∷ ls) [] = ⊥
Tells (l ∷ ls) (e ∷ es) = (l.event ≡ e.event) × (l.answer ≡ e.answer) × Tells ls es

-- some run of the node has these events and answers
abbrev pub IsRunOf : Settings → List Entry → Type 0
IsRunOf settings history = (links : List NodeLink) × IsNodeRun settings links × Tells (reverse links) history
