-- Requests as JSON trees, field by field: this project's own, over the calls of CRI v1.
use Rattle.std.specs.Prelude.{◌≡◌, ℕ, List, codes, IsTrue, Option, Some, option_and_then, unwrap_or}
use Rattle.serde_json.specs.Data.{Data}
use Rattle.serde_json.specs.Find.{get}
use Rattle.json_tree.specs.Tree.{tree_of, object, text, whole, word}
use Rattle.json_tree.specs.Reading.{HasField}
use Rattle.manifest.specs.declared.profiles.SeccompProfile.{SeccompProfile}
use Rattle.manifest.specs.Pod.{IsWritten}
use Rattle.manifest.specs.Texts.{is_descending, is_label, is_uid}
use Rattle.json_tree.specs.Reading.{MayHaveField}
use Rattle.cri_msgs.specs.declared.calls.Call.{Call}
use Rattle.cri_msgs.specs.declared.calls.Call.TheVariants.{RunPodSandbox, StopPodSandbox, RemovePodSandbox}
use Rattle.cri_msgs.specs.declared.calls.Call.TheVariants.{CreateContainer, StartContainer, StopContainer}
use Rattle.cri_msgs.specs.declared.calls.Call.TheVariants.{RemoveContainer, ContainerStatus, ListContainers}
use Rattle.cri_msgs.specs.declared.calls.Call.TheVariants.{ContainerStatuses}
use Rattle.cri_msgs.specs.declared.calls.Request.{Request}
use Rattle.cri_msgs.specs.declared.keys.ContainerMetadata.{ContainerMetadata}
use Rattle.cri_msgs.specs.declared.keys.Key.{Key}
use Rattle.cri_msgs.specs.declared.version.Version.{Version}
use Rattle.cri_msgs.specs.declared.version.Version.TheVariants.{V2}
use Rattle.cri_msgs.specs.Names.{call_name, version_number}

abbrev pub HasUid : Data → List ℕ → Type 0
HasUid tree uid = HasField text (codes "uid") tree uid × IsTrue (is_uid uid)

-- "name" and "attempt"
pub record HasContainer (tree : Data) (container : ContainerMetadata) : Type 0 where
  pub name : HasField text (codes "name") tree container.name
  pub name_fits : IsTrue (is_label container.name)
  pub attempt : HasField word (codes "attempt") tree container.attempt

abbrev pub HasKey : Data → Key → Type 0
HasKey tree key = HasUid tree key.uid × HasContainer tree key.container

abbrev pub HasGrace : Data → ℕ → Type 0
HasGrace tree grace = HasField whole (codes "grace") tree grace

abbrev pub HasImage : Data → List ℕ → Type 0
HasImage tree image = HasField text (codes "image") tree image × IsTrue (is_descending image)

-- a profile's "type", and the "path" that Localhost has and no other
pub record IsProfile (tree : Data) (profile : SeccompProfile) : Type 0 where
  pub name : List ℕ
  pub there : HasField text (codes "type") tree name
  pub path : Option (List ℕ)
  pub path_there : MayHaveField text (codes "path") tree path
  pub written : IsWritten profile name path

abbrev pub HasProfile : Data → SeccompProfile → Type 0
HasProfile tree profile = (found : Data) × HasField object (codes "profile") tree found
    × IsProfile found profile

-- the fields of each call
abbrev pub HasFields : Data → Call → Type 0
HasFields tree (RunPodSandbox uid) = HasUid tree uid
HasFields tree (StopPodSandbox uid grace) = HasUid tree uid × HasGrace tree grace
HasFields tree (RemovePodSandbox uid) = HasUid tree uid
HasFields tree (CreateContainer key image profile) = HasKey tree key × HasImage tree image
    × HasProfile tree profile
HasFields tree (StartContainer key) = HasKey tree key
HasFields tree (StopContainer key grace) = HasKey tree key × HasGrace tree grace
HasFields tree (RemoveContainer key) = HasKey tree key
HasFields tree (ContainerStatus key) = HasKey tree key
HasFields tree (ListContainers uid) = HasUid tree uid
HasFields tree (ContainerStatuses uid) = HasUid tree uid

-- version 1 has no ContainerStatuses
abbrev pub IsCallOf : Version → Call → Type 0
IsCallOf version (ContainerStatuses uid) = version ≡ V2
IsCallOf version call = Unit {0}

pub record IsRequest (version : Version) (tree : Data) (request : Request) : Type 0 where
  pub v : HasField whole (codes "v") tree (version_number version)
  pub id : HasField whole (codes "id") tree request.id
  pub call : HasField text (codes "call") tree (call_name request.call)
  pub in_version : IsCallOf version request.call
  pub fields : HasFields tree request.call

-- the text of a frame of this version is this request
pub record ReadsRequest (version : Version) (bytes : List ℕ) (request : Request) : Type 0 where
  pub tree : Data
  pub is : tree_of bytes ≡ Some tree
  pub says : IsRequest version tree request

-- the number of a text, even if it is no message; 0 if none can be read
abbrev pub number_in : Data → Option ℕ
number_in tree = option_and_then whole (get (codes "id") tree)

abbrev pub number_of : List ℕ → ℕ
number_of bytes = unwrap_or (option_and_then number_in (tree_of bytes)) 0
