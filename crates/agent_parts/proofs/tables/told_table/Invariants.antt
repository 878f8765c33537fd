-- The lines of the pods so far, and that there are no more pods than places.
use Rattle.std.proofs.Common.{◌≡◌, ◌<◌, ◌≤◌, length, string_bytes, take}
use Rattle.std.specs.List.{flat_map}
use Rattle.worker_core.specs.declared.limits.TheConstants.{MAX_PODS}
use Rattle.agent_parts.specs.Table.{slot_lines}
use Rattle.agent_parts.proofs.tables.told_table.Given as goal

abbrev pub invariant-loop-place : goal.invariant-loop-place
invariant-loop-place l =
    (string_bytes l.text ≡ flat_map (slot_lines l.form l.reasons l.counts) (take l.place l.node.slots))
    × (0 < l.place → length l.node.slots ≤ MAX_PODS)
