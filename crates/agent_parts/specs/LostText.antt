-- Why a call was lost, as text: this project's own. docs/SEMANTICS.md, "Programs".
use Rattle.std.specs.Prelude.{ℕ, List, ◌++◌, codes, Option, Some, None}
use Rattle.cri_frames.specs.FaultText.{lost_text}
use Rattle.node_io.specs.Causes.{cause_text}
use Rattle.agent_parts.specs.declared.lost.LostCall.{LostCall}
use Rattle.agent_parts.specs.declared.lost.Why.{Why}
use Rattle.agent_parts.specs.declared.lost.Why.TheVariants.{NotConnected, QueueFull, Ending, Failed}

abbrev pub why_text : Why → List ℕ
why_text (NotConnected cause) = codes "not connected: " ++ cause_text cause
why_text QueueFull = codes "not connected: its queue is full"
why_text Ending = codes "not connected: the agent ends"
why_text (Failed cause) = cause_text cause

abbrev pub behind : List ℕ → Option Why → List ℕ
behind name None = name
behind name (Some why) = name ++ (codes ": " ++ why_text why)

abbrev pub lost_call_text : LostCall → List ℕ
lost_call_text call = behind (lost_text call.lost) call.why
