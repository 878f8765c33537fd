-- Containers of a sandbox in order: by name, byte by byte, then by attempt. This project's own.
use Rattle.std.specs.Cmp.Lexicographic.{slice_cmp}
use Rattle.std.specs.declared.cmp.Ordering.{Ordering}
use Rattle.std.specs.Ordering.{nat_cmp, on, then_cmp}
use Rattle.cri_msgs.specs.declared.keys.ContainerMetadata.{ContainerMetadata}

abbrev pub container_cmp : ContainerMetadata → ContainerMetadata → Ordering
container_cmp = then_cmp (on (λ c. c.name) (slice_cmp nat_cmp)) (on (λ c. c.attempt) nat_cmp)
