-- The containers of a pod (Kubernetes 1.27, `PodSpec`). That names differ over both lists is the API's rule;
-- the greatest number of containers is this project's own.
use Rattle.std.specs.Prelude.{◌≢◌, ℕ, ◌<◌, ◌≤◌, List, length, AllPairs}
use Rattle.manifest.specs.declared.containers.Container.{Container}
use Rattle.manifest.specs.declared.containers.TheConstants.{MAX_CONTAINERS}

-- all of them, init ones first, and how many of them are init containers
pub record ContainerList : Type 0 where
  pub all : List Container
  pub inits : ℕ

pub record AreContainers (all : List Container) (inits : ℕ) : Type 0 where
  pub some : inits < length all
  pub few : length all ≤ MAX_CONTAINERS
  pub apart : AllPairs (λ one other. one.name ≢ other.name) all
