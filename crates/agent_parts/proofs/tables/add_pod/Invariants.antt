-- The lines of the containers so far.
use Rattle.std.proofs.Common.{◌≡◌, ◌++◌, length, string_bytes, take}
use Rattle.std.specs.List.{flat_map, zip}
use Rattle.agent_parts.specs.Table.{container_line}
use Rattle.agent_parts.proofs.tables.add_pod.Given as goal

abbrev pub invariant-loop-container : goal.invariant-loop-container
invariant-loop-container l =
    string_bytes l.text ≡ string_bytes l.initial.text
    ++ flat_map (container_line l.form l.reasons l.counts l.pod.uid l.pod.policy)
    (take (length l.yielded) (zip l.pod.containers.all l.tracks))
