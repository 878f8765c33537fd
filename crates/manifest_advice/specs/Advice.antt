-- What of a manifest has no effect, although it was probably meant to have one. The members are those of
-- Kubernetes 1.27, Pod; the API server reads them by their exact names. The annotations are those of
-- Kubernetes 1.26, "Well-Known Labels, Annotations and Taints", which 1.27 ignores.
use Rattle.std.specs.Prelude.{ℕ, Bool, not, ◌&&◌, ◌||◌, if◌then◌else◌, List, [], ◌∷◌, ◌++◌, codes, nat_eq}
use Rattle.std.specs.Prelude.{filter_map, find, flat_map, map, Option, Some, None, option_and_then, option_map}
use Rattle.std.specs.Prelude.{unwrap_or}
use Rattle.std.specs.List.{enumerate_from, starts_with}
use Rattle.std.specs.Str.{bytes_eq}
use Rattle.std.specs.Char.{to_ascii_lowercase}
use Rattle.serde_json.specs.Data as json
use Rattle.serde_json.specs.Data.{Data, Members}
use Rattle.serde_json.specs.Find.{as_object}
use Rattle.json_tree.specs.Tree.{list, member}
use Rattle.manifest_advice.specs.declared.members.TheConstants.{CONTAINER_ANNOTATIONS, POD_ANNOTATION}
use Rattle.manifest_advice.specs.declared.advice.Advice.{Advice}
use Rattle.manifest_advice.specs.declared.advice.Advice.TheVariants as advice
use Rattle.manifest_advice.specs.declared.holder.Holder.{Holder}
use Rattle.manifest_advice.specs.declared.holder.Holder.TheVariants as of
use Rattle.manifest_advice.specs.declared.holder.Listing.{Listing}
use Rattle.manifest_advice.specs.declared.holder.Listing.TheVariants as listing

-- a piece of advice, with texts as their bytes
pub data AdviceData : Type 0 where
  OtherCase : Holder → List ℕ → List ℕ → AdviceData
  OldAnnotation : List ℕ → AdviceData

abbrev pub told : Advice → AdviceData
told (advice.OtherCase holder key name) = OtherCase holder key.now name.now
told (advice.OldAnnotation key) = OldAnnotation key.now

-- the members that are read
abbrev pub known : Holder → List (List ℕ)
known of.Manifest = codes "apiVersion" ∷ codes "kind" ∷ codes "metadata" ∷ codes "spec" ∷ []
known of.Metadata = codes "name" ∷ codes "namespace" ∷ codes "uid" ∷ codes "annotations" ∷ []
known of.Spec = codes "restartPolicy" ∷ codes "terminationGracePeriodSeconds" ∷ codes "securityContext"
    ∷ codes "initContainers" ∷ codes "containers" ∷ []
known of.PodContext = codes "seccompProfile" ∷ []
known of.PodProfile = codes "type" ∷ codes "localhostProfile" ∷ []
known (of.Container listing index) = codes "name" ∷ codes "image" ∷ codes "securityContext" ∷ []
known (of.Context listing index) = codes "privileged" ∷ codes "seccompProfile" ∷ []
known (of.Profile listing index) = codes "type" ∷ codes "localhostProfile" ∷ []

abbrev pub members_list : Members → List (List ℕ × Data)
members_list json.no_members = []
members_list (json.member key value ms) = (key, value) ∷ members_list ms

-- the members of an object
abbrev pub members_of : Data → List (List ℕ × Data)
members_of tree = unwrap_or (option_map members_list (as_object tree)) []

-- the same but for the case of letters
abbrev pub is_other_case : List ℕ → List ℕ → Bool
is_other_case key name =
    bytes_eq (map to_ascii_lowercase key) (map to_ascii_lowercase name) && not (bytes_eq key name)

abbrev pub known_as : Holder → List ℕ → Option (List ℕ)
known_as holder key = find (is_other_case key) (known holder)

abbrev pub recased_at : Holder → List ℕ × Data → Option AdviceData
recased_at holder (key, value) = option_map (OtherCase holder key) (known_as holder key)

unfoldable pub recased_in : Holder → Data → List AdviceData
recased_in holder tree = filter_map (recased_at holder) (members_of tree)

-- the annotations that named the profile of a pod or of a container
abbrev pub is_old : List ℕ → Bool
is_old key = bytes_eq key POD_ANNOTATION.now || starts_with nat_eq key CONTAINER_ANNOTATIONS.now

abbrev pub old_at : List ℕ × Data → Option AdviceData
old_at (key, value) = if is_old key then Some (OldAnnotation key) else None

unfoldable pub old_in : Data → List AdviceData
old_in tree = filter_map old_at (members_of tree)

abbrev pub of_some : (Data → List AdviceData) → Option Data → List AdviceData
of_some f None = []
of_some f (Some tree) = f tree

-- the advice on the member with this key, if there is one
unfoldable pub within : (Data → List AdviceData) → List ℕ → Data → List AdviceData
within f key tree = of_some f (member key tree)

-- the items of the list at this member
unfoldable pub items_in : List ℕ → Data → List Data
items_in key tree = unwrap_or (option_and_then list (member key tree)) []

unfoldable pub context_in : Holder → Holder → Data → List AdviceData
context_in context profile tree = recased_in context tree
    ++ within (recased_in profile) (codes "seccompProfile") tree

unfoldable pub container_at : Listing → ℕ × Data → List AdviceData
container_at listing (index, item) = recased_in (of.Container listing index) item
    ++ within (context_in (of.Context listing index) (of.Profile listing index)) (codes "securityContext") item

unfoldable pub listed_in : Listing → List Data → List AdviceData
listed_in listing items = flat_map (container_at listing) (enumerate_from 0 items)

unfoldable pub metadata_in : Data → List AdviceData
metadata_in tree = recased_in of.Metadata tree ++ within old_in (codes "annotations") tree

-- the advice on all containers, init ones first
unfoldable pub containers_in : Data → List AdviceData
containers_in tree = listed_in listing.Init (items_in (codes "initContainers") tree)
    ++ listed_in listing.Main (items_in (codes "containers") tree)

unfoldable pub spec_in : Data → List AdviceData
spec_in tree = recased_in of.Spec tree
    ++ (within (context_in of.PodContext of.PodProfile) (codes "securityContext") tree
    ++ containers_in tree)

-- the advice on a manifest's tree
unfoldable pub advice_in : Data → List AdviceData
advice_in tree = recased_in of.Manifest tree
    ++ (within metadata_in (codes "metadata") tree ++ within spec_in (codes "spec") tree)
