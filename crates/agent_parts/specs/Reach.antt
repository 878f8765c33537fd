-- When an agent reports that the runtime can't be reached, and that it can be again: this project's own.
-- docs/SEMANTICS.md, "Programs".
use Rattle.std.specs.Prelude.{Bool, true, false, Option, Some, None, Result, Ok, Err}
use Rattle.cri_msgs.specs.declared.replies.Reply.{Reply}
use Rattle.agent_parts.specs.declared.lost.LostCall.{LostCall}
use Rattle.agent_parts.specs.declared.lost.Why.{Why}
use Rattle.agent_parts.specs.declared.lost.Why.TheVariants.{NotConnected, QueueFull, Ending, Failed}
use Rattle.agent_parts.specs.declared.reach.Reach.{Reach}
use Rattle.agent_parts.specs.declared.reach.Reach.TheVariants.{Reached, Unreached, NotTried}
use Rattle.agent_parts.specs.declared.reach.ReachReport.{ReachReport}
use Rattle.agent_parts.specs.declared.reach.ReachReport.TheVariants.{Nothing, Lost, Again}

-- a call that got a connection has reached the runtime
abbrev pub shown_by : Option Why → Reach
shown_by (Some (NotConnected cause)) = Unreached (NotConnected cause)
shown_by (Some QueueFull) = Unreached QueueFull
shown_by (Some Ending) = NotTried
shown_by (Some (Failed cause)) = Reached
shown_by None = Reached

abbrev pub reach_of : Result Reply LostCall → Reach
reach_of (Ok reply) = Reached
reach_of (Err call) = shown_by call.why

abbrev pub is_unreached : Bool → Reach → Bool
is_unreached before NotTried = before
is_unreached before Reached = false
is_unreached before (Unreached why) = true

-- once when it can't be reached, and once when it can be again
abbrev pub report_of : Bool → Reach → ReachReport
report_of false (Unreached why) = Lost why
report_of true Reached = Again
report_of before now = Nothing
