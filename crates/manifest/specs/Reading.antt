-- Which fault of a manifest is found first: docs/SEMANTICS.md, "Manifests", has the order. Each definition is
-- the reading of a tree, with its faults in that order, each with its place in the tree.
use Rattle.std.specs.Prelude.{ℕ, ◌==◌, ◌+◌, ◌-◌, List, [], length, codes, Bool, false, not, nat_lt}
use Rattle.std.specs.Prelude.{if◌then◌else◌, Option, Some, None, option_map, unwrap_or, Result, Ok, Err, ⊤}
use Rattle.std.specs.List.{list_any}
use Rattle.std.specs.Result.{result_err}
use Rattle.std.specs.Str.{bytes_eq}
use Rattle.serde_json.specs.Data.{Data}
use Rattle.json_tree.specs.Tree.{flag, list, object, text, whole}
use Rattle.json_tree.specs.Reading.{◌>>=◌, ◌>>◌, refuse_if, or_else, if_there, in_order_after, as_fault}
use Rattle.json_tree.specs.Reading.{document as document_of}
use Rattle.json_place.specs.declared.fields.FieldFaultAt.{FieldFaultAt}
use Rattle.json_place.specs.Parts.{Member, Item}
use Rattle.json_place.specs.Fields.{GivesAt, required, optional}
use Rattle.lifecycle.specs.declared.policy.RestartPolicy.{RestartPolicy}
use Rattle.lifecycle.specs.declared.policy.RestartPolicy.TheVariants.{Always, OnFailure, Never}
use Rattle.manifest.specs.declared.containers.Container.{Container}
use Rattle.manifest.specs.declared.containers.TheConstants.{MAX_CONTAINERS}
use Rattle.manifest.specs.declared.faults.PodFault.{PodFault}
use Rattle.manifest.specs.declared.faults.PodFault.TheVariants.{Missing, WrongType, BadName, RepeatedName}
use Rattle.manifest.specs.declared.faults.PodFault.TheVariants.{BadProfile, TooMany, Memory}
use Rattle.manifest.specs.declared.placed.PodFaultAt.{PodFaultAt}
use Rattle.manifest.specs.declared.pods.Pod.{Pod}
use Rattle.manifest.specs.declared.profiles.SeccompProfile.{SeccompProfile}
use Rattle.manifest.specs.declared.profiles.SeccompProfile.TheVariants.{RuntimeDefault, Localhost, Unconfined}
use Rattle.manifest.specs.Containers.{ContainerList}
use Rattle.manifest.specs.Faults.{at, fault_at, fault_here, fault_of_field_at, fault_of_text, under}
use Rattle.manifest.specs.Heads.{Context, Head, Identity, Lists, Terms, default_uid}
use Rattle.manifest.specs.Texts.{is_descending, is_label, is_pod_name, is_uid}

abbrev pub here : {A : Type 0} → Result A FieldFaultAt → Result A PodFaultAt
here r = as_fault fault_of_field_at r

-- a call returns this reading, or memory ran out
abbrev pub Reads : {X Y : Type 0} → (X → Y) → Result X PodFaultAt → Result Y PodFaultAt → Type 0
Reads view result reading = GivesAt (λ found. found.fault) Memory view result reading

-- a text that passes the test
unfoldable pub named_by : (List ℕ → Bool) → List ℕ → Data → Result (List ℕ) PodFaultAt
named_by test key tree = do
  name ← here (required text key tree)
  refuse_if (not (test name)) (fault_at key BadName)
  Ok name

-- the field is this text
unfoldable pub says : List ℕ → List ℕ → Data → Result ⊤ PodFaultAt
says key want tree = do
  found ← here (required text key tree)
  refuse_if (not (bytes_eq found want)) (fault_at key WrongType)

unfoldable pub namespace_of : Data → Result (List ℕ) PodFaultAt
namespace_of tree = do
  given ← here (optional text (codes "namespace") tree)
  refuse_if (not (is_label (unwrap_or given (codes "default")))) (fault_at (codes "namespace") BadName)
  Ok (unwrap_or given (codes "default"))

unfoldable pub checked_uid : List ℕ → Result (List ℕ) PodFaultAt
checked_uid given = do
  refuse_if (not (is_uid given)) (fault_at (codes "uid") BadName)
  Ok given

-- the uid, if there is one
unfoldable pub uid_of : Data → Result (Option (List ℕ)) PodFaultAt
uid_of tree = do
  given ← here (optional text (codes "uid") tree)
  if_there checked_uid given

unfoldable pub identity_of : Data → Result Identity PodFaultAt
identity_of tree = do
  name ← named_by is_pod_name (codes "name") tree
  namespace ← namespace_of tree
  uid ← uid_of tree
  Ok (record { namespace = namespace; name = name; uid = unwrap_or uid (default_uid namespace name) })

unfoldable pub policy_named : List ℕ → Result RestartPolicy PodFault
policy_named name =
    if bytes_eq name (codes "Always") then Ok Always
    else if bytes_eq name (codes "OnFailure") then Ok OnFailure
    else if bytes_eq name (codes "Never") then Ok Never
    else Err WrongType

abbrev pub policy_there : Option (List ℕ) → Result RestartPolicy PodFaultAt
policy_there None = Ok Always
policy_there (Some name) = at (codes "restartPolicy") (policy_named name)

unfoldable pub policy_of : Data → Result RestartPolicy PodFaultAt
policy_of spec = do
  given ← here (optional text (codes "restartPolicy") spec)
  policy_there given

unfoldable pub grace_of : Data → Result ℕ PodFaultAt
grace_of spec = do
  given ← here (optional whole (codes "terminationGracePeriodSeconds") spec)
  Ok (unwrap_or given 30)

-- a type that takes no path
abbrev pub without_path : SeccompProfile → Option (List ℕ) → Result SeccompProfile PodFaultAt
without_path profile None = Ok profile
without_path profile (Some path) = Err (fault_at (codes "localhostProfile") BadProfile)

-- the type that takes a path
abbrev pub with_path : Option (List ℕ) → Result SeccompProfile PodFaultAt
with_path None = Err (fault_at (codes "localhostProfile") BadProfile)
with_path (Some path) = if is_descending path then Ok (Localhost path)
    else Err (fault_at (codes "localhostProfile") BadProfile)

unfoldable pub profile_named : List ℕ → Option (List ℕ) → Result SeccompProfile PodFaultAt
profile_named name path =
    if bytes_eq name (codes "RuntimeDefault") then without_path RuntimeDefault path
    else if bytes_eq name (codes "Localhost") then with_path path
    else if bytes_eq name (codes "Unconfined") then without_path Unconfined path
    else Err (fault_at (codes "type") BadProfile)

-- a `seccompProfile`
unfoldable pub profile_of : Data → Result SeccompProfile PodFaultAt
profile_of tree = do
  name ← here (required text (codes "type") tree)
  path ← here (optional text (codes "localhostProfile") tree)
  profile_named name path

-- the profile of a `securityContext`, if it has one
unfoldable pub profile_in : Data → Result (Option SeccompProfile) PodFaultAt
profile_in context = do
  found ← here (optional object (codes "seccompProfile") context)
  under (Member (codes "seccompProfile")) (if_there profile_of found)

-- the profile of an optional `securityContext`
abbrev pub profile_within : Option Data → Result (Option SeccompProfile) PodFaultAt
profile_within None = Ok None
profile_within (Some context) = profile_in context

unfoldable pub pod_profile_of : Data → Result (Option SeccompProfile) PodFaultAt
pod_profile_of spec = do
  context ← here (optional object (codes "securityContext") spec)
  under (Member (codes "securityContext")) (profile_within context)

unfoldable pub terms_of : Data → Result Terms PodFaultAt
terms_of spec = do
  policy ← policy_of spec
  grace ← grace_of spec
  profile ← pod_profile_of spec
  Ok (record { policy = policy; grace = grace; profile = profile })

unfoldable pub inits_of : Data → Result (List Data) PodFaultAt
inits_of spec = do
  given ← here (optional list (codes "initContainers") spec)
  Ok (unwrap_or given [])

unfoldable pub others_of : Data → Result (List Data) PodFaultAt
others_of spec = do
  others ← here (required list (codes "containers") spec)
  refuse_if (length others == 0) (fault_at (codes "containers") Missing)
  Ok others

-- both lists as written there
unfoldable pub lists_of : Data → Result Lists PodFaultAt
lists_of spec = do
  inits ← inits_of spec
  others ← others_of spec
  refuse_if (nat_lt MAX_CONTAINERS (length inits + length others)) (fault_here TooMany)
  Ok (record { inits = inits; others = others })

unfoldable pub kind_of : Data → Result ⊤ PodFaultAt
kind_of tree = do
  says (codes "apiVersion") (codes "v1") tree
  says (codes "kind") (codes "Pod") tree

unfoldable pub named_of : Data → Result Identity PodFaultAt
named_of tree = do
  metadata ← here (required object (codes "metadata") tree)
  under (Member (codes "metadata")) (identity_of metadata)

-- the parts that are read before the containers
unfoldable pub head_of : Data → Result Head PodFaultAt
head_of whole_tree = do
  tree ← or_else (fault_here WrongType) (object whole_tree)
  kind_of tree
  identity ← named_of tree
  spec ← here (required object (codes "spec") tree)
  terms ← under (Member (codes "spec")) (terms_of spec)
  lists ← under (Member (codes "spec")) (lists_of spec)
  Ok (record { identity = identity; terms = terms; lists = lists })

-- whether one of the containers has this name
unfoldable pub is_taken : List Container → List ℕ → Bool
is_taken done name = list_any (λ container. bytes_eq container.name name) done

unfoldable pub new_name_of : List Container → Data → Result (List ℕ) PodFaultAt
new_name_of done tree = do
  name ← named_by is_label (codes "name") tree
  refuse_if (is_taken done name) (fault_at (codes "name") RepeatedName)
  Ok name

unfoldable pub settings_in : Data → Result Context PodFaultAt
settings_in context = do
  privileged ← here (optional flag (codes "privileged") context)
  profile ← profile_in context
  Ok (record { privileged = unwrap_or privileged false; profile = profile })

abbrev pub settings_within : Option Data → Result Context PodFaultAt
settings_within None = Ok (record { privileged = false; profile = None })
settings_within (Some context) = settings_in context

-- the content of a container's `securityContext`
unfoldable pub context_of : Data → Result Context PodFaultAt
context_of tree = do
  context ← here (optional object (codes "securityContext") tree)
  under (Member (codes "securityContext")) (settings_within context)

unfoldable pub container_of : List Container → Data → Result Container PodFaultAt
container_of done item = do
  tree ← or_else (fault_here WrongType) (object item)
  name ← new_name_of done tree
  image ← named_by is_descending (codes "image") tree
  context ← context_of tree
  Ok (record { name = name; image = image; privileged = context.privileged; profile = context.profile })

-- as the item of its list after those that were read, this many of which are of another list
abbrev pub container_at : ℕ → List Container → Data → Result Container PodFaultAt
container_at others done item = under (Item (length done - others)) (container_of done item)

-- the containers of one list, after those of another
abbrev pub listed_of : List ℕ → List Container → List Data → Result (List Container) PodFaultAt
listed_of key done items = under (Member (codes "spec"))
    (under (Member key) (in_order_after (container_at (length done)) done items))

-- the containers of both lists, init ones first
unfoldable pub containers_of : Lists → Result ContainerList PodFaultAt
containers_of lists = do
  inits ← listed_of (codes "initContainers") [] lists.inits
  all ← listed_of (codes "containers") inits lists.others
  Ok (record { all = all; inits = length inits })

abbrev pub pod_from : Head → ContainerList → Pod
pod_from head containers = record {
  uid = head.identity.uid;
  namespace = head.identity.namespace;
  name = head.identity.name;
  policy = head.terms.policy;
  grace = head.terms.grace;
  profile = head.terms.profile;
  containers = containers;
}

unfoldable pub pod_of : Data → Result Pod PodFaultAt
pod_of tree = do
  head ← head_of tree
  containers ← containers_of head.lists
  Ok (pod_from head containers)

unfoldable pub reading_of : List ℕ → Result Pod PodFaultAt
reading_of bytes = do
  tree ← as_fault (λ fault. fault_here (fault_of_text fault)) (document_of bytes)
  pod_of tree

-- the fault of a text that is found first, and its place, if it has one
abbrev pub first_fault_at : List ℕ → Option PodFaultAt
first_fault_at bytes = result_err (reading_of bytes)

-- the first fault without its place
abbrev pub first_fault : List ℕ → Option PodFault
first_fault bytes = option_map (λ found. found.fault) (first_fault_at bytes)
