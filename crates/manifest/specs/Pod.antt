-- Manifests of pods as JSON trees: Kubernetes 1.27, API reference, `Pod` v1, the fields that this project
-- runs. Which tree is which pod, field by field, in no order of reading. This project's own are the uid of a
-- pod that has none, that an image is a descending path, and the limits.
use Rattle.std.specs.Prelude.{◌≡◌, ℕ, List, [], ◌++◌, length, codes, Bool, false, IsTrue, Option, Some, None}
use Rattle.std.specs.Prelude.{unwrap_or}
use Rattle.serde_json.specs.Data.{Data}
use Rattle.json_tree.specs.Tree.{tree_of, flag, list, object, text, whole}
use Rattle.json_tree.specs.Reading.{HasField, MayHaveField, Both}
use Rattle.lifecycle.specs.declared.policy.RestartPolicy.{RestartPolicy}
use Rattle.lifecycle.specs.declared.policy.RestartPolicy.TheVariants.{Always, OnFailure, Never}
use Rattle.manifest.specs.declared.containers.Container.{Container}
use Rattle.manifest.specs.declared.pods.Pod.{Pod}
use Rattle.manifest.specs.declared.profiles.SeccompProfile.{SeccompProfile}
use Rattle.manifest.specs.declared.profiles.SeccompProfile.TheVariants.{RuntimeDefault, Localhost, Unconfined}
use Rattle.manifest.specs.Containers.{AreContainers}
use Rattle.manifest.specs.Heads.{default_uid}
use Rattle.manifest.specs.Texts.{is_descending, is_label, is_pod_name, is_uid}

-- the content of "metadata"
pub record HasIdentity (tree : Data) (namespace name uid : List ℕ) : Type 0 where
  pub name_there : HasField text (codes "name") tree name
  pub name_fits : IsTrue (is_pod_name name)
  pub given_namespace : Option (List ℕ)
  pub namespace_there : MayHaveField text (codes "namespace") tree given_namespace
  pub namespace_is : namespace ≡ unwrap_or given_namespace (codes "default")
  pub namespace_fits : IsTrue (is_label namespace)
  pub given_uid : Option (List ℕ)
  pub uid_there : MayHaveField text (codes "uid") tree given_uid
  pub uid_is : uid ≡ unwrap_or given_uid (default_uid namespace name)
  pub uid_fits : IsTrue (is_uid uid)

-- Always if there is none
abbrev pub IsPolicyOf : RestartPolicy → Option (List ℕ) → Type 0
IsPolicyOf Always given = unwrap_or given (codes "Always") ≡ codes "Always"
IsPolicyOf OnFailure given = given ≡ Some (codes "OnFailure")
IsPolicyOf Never given = given ≡ Some (codes "Never")

pub record HasPolicy (spec : Data) (policy : RestartPolicy) : Type 0 where
  pub given : Option (List ℕ)
  pub there : MayHaveField text (codes "restartPolicy") spec given
  pub is : IsPolicyOf policy given

pub record HasGrace (spec : Data) (grace : ℕ) : Type 0 where
  pub given : Option ℕ
  pub there : MayHaveField whole (codes "terminationGracePeriodSeconds") spec given
  pub is : grace ≡ unwrap_or given 30

-- the type and the path of the profile
abbrev pub IsWritten : SeccompProfile → List ℕ → Option (List ℕ) → Type 0
IsWritten RuntimeDefault name path = (name ≡ codes "RuntimeDefault") × (path ≡ None)
IsWritten (Localhost file) name path = (name ≡ codes "Localhost") × (path ≡ Some file)
    × IsTrue (is_descending file)
IsWritten Unconfined name path = (name ≡ codes "Unconfined") × (path ≡ None)

-- a "seccompProfile"
pub record IsProfile (tree : Data) (profile : SeccompProfile) : Type 0 where
  pub name : List ℕ
  pub there : HasField text (codes "type") tree name
  pub path : Option (List ℕ)
  pub path_there : MayHaveField text (codes "localhostProfile") tree path
  pub written : IsWritten profile name path

-- both are present, and one is the other's, or neither is
abbrev pub SameWhere : {A B : Type 0} → (A → B → Type 0) → Option A → Option B → Type 0
SameWhere R None None = Unit {0}
SameWhere R None (Some y) = ⊥
SameWhere R (Some x) None = ⊥
SameWhere R (Some x) (Some y) = R x y

-- the profile of a "securityContext"
pub record HasProfile (context : Data) (profile : Option SeccompProfile) : Type 0 where
  pub found : Option Data
  pub there : MayHaveField object (codes "seccompProfile") context found
  pub is : SameWhere IsProfile found profile

abbrev pub HasProfileWithin : Option Data → Option SeccompProfile → Type 0
HasProfileWithin None profile = profile ≡ None
HasProfileWithin (Some context) profile = HasProfile context profile

pub record HasPodProfile (spec : Data) (profile : Option SeccompProfile) : Type 0 where
  pub context : Option Data
  pub there : MayHaveField object (codes "securityContext") spec context
  pub is : HasProfileWithin context profile

-- a container's "securityContext"
pub record HasSettings (context : Data) (privileged : Bool) (profile : Option SeccompProfile) : Type 0 where
  pub given : Option Bool
  pub there : MayHaveField flag (codes "privileged") context given
  pub is : privileged ≡ unwrap_or given false
  pub has_profile : HasProfile context profile

abbrev pub HasSettingsWithin : Option Data → Bool → Option SeccompProfile → Type 0
HasSettingsWithin None privileged profile = (privileged ≡ false) × (profile ≡ None)
HasSettingsWithin (Some context) privileged profile = HasSettings context privileged profile

-- an item of "initContainers" or of "containers"
pub record IsContainer (tree : Data) (container : Container) : Type 0 where
  pub an_object : object tree ≡ Some tree
  pub name_there : HasField text (codes "name") tree container.name
  pub name_fits : IsTrue (is_label container.name)
  pub image_there : HasField text (codes "image") tree container.image
  pub image_fits : IsTrue (is_descending container.image)
  pub context : Option Data
  pub context_there : MayHaveField object (codes "securityContext") tree context
  pub settings : HasSettingsWithin context container.privileged container.profile

-- the content of "spec" for the containers
pub record HasContainers (spec : Data) (all : List Container) (inits : ℕ) : Type 0 where
  pub given : Option (List Data)
  pub inits_there : MayHaveField list (codes "initContainers") spec given
  pub others : List Data
  pub others_there : HasField list (codes "containers") spec others
  pub each : Both IsContainer (unwrap_or given [] ++ others) all
  pub count : inits ≡ length (unwrap_or given [])
  pub fit : AreContainers all inits

pub record IsPod (tree : Data) (pod : Pod) : Type 0 where
  pub an_object : object tree ≡ Some tree
  pub version : HasField text (codes "apiVersion") tree (codes "v1")
  pub kind : HasField text (codes "kind") tree (codes "Pod")
  pub metadata : Data
  pub metadata_there : HasField object (codes "metadata") tree metadata
  pub identity : HasIdentity metadata pod.namespace pod.name pod.uid
  pub spec : Data
  pub spec_there : HasField object (codes "spec") tree spec
  pub policy : HasPolicy spec pod.policy
  pub grace : HasGrace spec pod.grace
  pub profile : HasPodProfile spec pod.profile
  pub containers : HasContainers spec pod.containers.all pod.containers.inits

-- the text is this pod's
pub record ReadsPod (bytes : List ℕ) (pod : Pod) : Type 0 where
  pub tree : Data
  pub is : tree_of bytes ≡ Some tree
  pub says : IsPod tree pod
