-- What is seen of a pod from outside: its phase, and the state of each of its containers as the table of a
-- node has it. docs/SEMANTICS.md, "What changes".
use Rattle.std.specs.Prelude.{◌-◌, ℕ, List, map}
use Rattle.std.specs.List.{zip}
use Rattle.lifecycle.specs.declared.policy.RestartPolicy.{RestartPolicy}
use Rattle.lifecycle.specs.declared.track.Track.{Track}
use Rattle.lifecycle.specs.Tracks.{started_of, state_of}
use Rattle.manifest.specs.declared.containers.Container.{Container}
use Rattle.node_watch.specs.declared.counts.Counted.{Counted}
use Rattle.node_watch.specs.declared.seen.ContainerSeen.{ContainerSeen}
use Rattle.node_watch.specs.Counts.{counts_of}

abbrev pub container_seen : RestartPolicy → List ℕ → List Counted → Container × Track → ContainerSeen
container_seen policy uid counts (container, track) = record {
  name = container.name;
  state = state_of policy track;
  restarts = started_of track - 1;
  counts = counts_of uid container.name counts;
}

abbrev pub containers_seen : RestartPolicy → List ℕ → List Counted → List Container → List Track
    → List ContainerSeen
containers_seen policy uid counts containers tracks =
    map (container_seen policy uid counts) (zip containers tracks)
