-- The parts of a manifest read before its containers, in groups: this project's own.
use Rattle.std.specs.Prelude.{ℕ, List, ◌++◌, codes, Bool, Option}
use Rattle.serde_json.specs.Data.{Data}
use Rattle.lifecycle.specs.declared.policy.RestartPolicy.{RestartPolicy}
use Rattle.manifest.specs.declared.profiles.SeccompProfile.{SeccompProfile}

-- the content of `metadata`
pub record Identity : Type 0 where
  pub namespace : List ℕ
  pub name : List ℕ
  pub uid : List ℕ

-- the content of `spec` for the pod as a whole
pub record Terms : Type 0 where
  pub policy : RestartPolicy
  pub grace : ℕ
  pub profile : Option SeccompProfile

-- the lists of containers as written there
pub record Lists : Type 0 where
  pub inits : List Data
  pub others : List Data

pub record Head : Type 0 where
  pub identity : Identity
  pub terms : Terms
  pub lists : Lists

-- the content of a container's `securityContext`
pub record Context : Type 0 where
  pub privileged : Bool
  pub profile : Option SeccompProfile

-- the uid of a pod without one: the namespace, a dot and the name
abbrev pub default_uid : List ℕ → List ℕ → List ℕ
default_uid namespace name = namespace ++ codes "." ++ name
