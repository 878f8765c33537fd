-- The state of a node's pods at the end of a run with --settle, and its exit status: this project's own.
-- docs/SEMANTICS.md, "Programs".
use Rattle.std.specs.Prelude.{ℕ, Bool, if◌then◌else◌}
use Rattle.worker_core.specs.Kept.{KeptNode}
use Rattle.worker_core.specs.Slots.{has_failed, is_settled}
use Rattle.agent_parts.specs.declared.node_ends.NodeEnd.{NodeEnd}
use Rattle.agent_parts.specs.declared.node_ends.NodeEnd.TheVariants as ends

abbrev pub end_of : KeptNode → NodeEnd
end_of node = if is_settled node.slots then (if has_failed node.slots then ends.Failed else ends.Succeeded)
    else ends.Open

-- 0 exactly if each pod is Succeeded or Failed, but 1 with --fail if one is Failed
abbrev pub status_of_end : Bool → NodeEnd → ℕ
status_of_end fail ends.Open = 5
status_of_end fail ends.Failed = if fail then 1 else 0
status_of_end fail ends.Succeeded = 0

abbrev pub settled_status : Bool → KeptNode → ℕ
settled_status fail node = status_of_end fail (end_of node)
