-- The refusals of a node, their names and their numbers: this project's own. docs/SEMANTICS.md, "The agent:
-- the node".
use Rattle.std.specs.Prelude.{ℕ, List, codes, Bool, true, false}
use Rattle.worker_core.specs.declared.answers.Answer.{Answer}
use Rattle.worker_core.specs.declared.answers.Answer.TheVariants.{Refused}
use Rattle.worker_core.specs.declared.answers.NodeRefusal.{NodeRefusal}
use Rattle.worker_core.specs.declared.answers.NodeRefusal.TheVariants.{Full, KnownUid, NoSuchPod, NotYours}
use Rattle.worker_core.specs.declared.answers.NodeRefusal.TheVariants.{ClockBack, Memory}

abbrev pub refusal_number : NodeRefusal → ℕ
refusal_number Full = 1
refusal_number KnownUid = 2
refusal_number NoSuchPod = 3
refusal_number NotYours = 4
refusal_number ClockBack = 5
refusal_number Memory = 6

-- as programs print it
abbrev pub refusal_text : NodeRefusal → List ℕ
refusal_text Full = codes "Full"
refusal_text KnownUid = codes "KnownUid"
refusal_text NoSuchPod = codes "NoSuchPod"
refusal_text NotYours = codes "NotYours"
refusal_text ClockBack = codes "ClockBack"
refusal_text Memory = codes "Memory"

-- an allocation failed
abbrev pub is_want : NodeRefusal → Bool
is_want Memory = true
is_want refusal = false

abbrev pub is_memory : Answer → Bool
is_memory (Refused refusal) = is_want refusal
is_memory answer = false
