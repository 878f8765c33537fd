-- Every request is read: each reading of its tree succeeds and returns what the tree has.
use Rattle.std.proofs.Common.{◌≡◌, ℕ, List, codes, Bool, true, Option, Ok, refl, eq-eqb}
use Rattle.serde_json.specs.Data.{Data}
use Rattle.json_tree.specs.Tree.{object, text, whole, word}
use Rattle.json_tree.specs.Reading.{HasField}
use Rattle.json_tree.proofs.Fields.{required_only, optional_only}
use Rattle.manifest.specs.declared.profiles.SeccompProfile.{SeccompProfile}
use Rattle.manifest.specs.declared.profiles.SeccompProfile.TheVariants.{RuntimeDefault, Localhost, Unconfined}
use Rattle.manifest.specs.Pod.{IsWritten}
use Rattle.manifest.specs.Texts.{is_descending, is_label, is_uid}
use Rattle.cri_msgs.specs.declared.calls.Call.{Call}
use Rattle.cri_msgs.specs.declared.calls.Call.TheVariants as call
use Rattle.cri_msgs.specs.declared.calls.Request.{Request}
use Rattle.cri_msgs.specs.declared.keys.ContainerMetadata.{ContainerMetadata}
use Rattle.cri_msgs.specs.declared.keys.Key.{Key}
use Rattle.cri_msgs.specs.declared.names.CallName.{CallName}
use Rattle.cri_msgs.specs.declared.names.CallName.TheVariants as name
use Rattle.cri_msgs.specs.declared.version.Version.{Version}
use Rattle.cri_msgs.specs.Names.{call_name, version_number}
use Rattle.cri_msgs.specs.Reading.{fitting, container_of, key_of, profile_named, profile_in, profile_of}
use Rattle.cri_msgs.specs.Reading.{call_named, by_uid, by_key, stop_pod_of, create_of, stop_of, call_by}
use Rattle.cri_msgs.specs.Reading.{numbered, call_of, request_of}
use Rattle.cri_msgs.specs.Requests.{HasUid, HasContainer, HasKey, HasProfile, HasFields, IsCallOf, IsRequest}

fitting_only : (test : List ℕ → Bool) (key : List ℕ) (tree : Data) (x : List ℕ) → HasField text key tree x
    → test x ≡ true → fitting test key tree ≡ Ok x
unfolding fitting
fitting_only test key tree x there fits = rw (required_only text key tree x there, fits) refl

pub container_only : (tree : Data) (c : ContainerMetadata) → HasContainer tree c → container_of tree ≡ Ok c
unfolding container_of
container_only tree c h = rw (
  fitting_only is_label (codes "name") tree c.name h.name h.name_fits,
  required_only word (codes "attempt") tree c.attempt h.attempt,
) refl

key_only : (tree : Data) (key : Key) → HasKey tree key → key_of tree ≡ Ok key
unfolding key_of
key_only tree key h = rw (
  fitting_only is_uid (codes "uid") tree key.uid h.0.0 h.0.1,
  container_only tree key.container h.1,
) refl

written_only : (profile : SeccompProfile) (type : List ℕ) (path : Option (List ℕ))
    → IsWritten profile type path → profile_named type path ≡ Ok profile
unfolding profile_named
written_only RuntimeDefault type path h = rw (h.0, h.1) refl
written_only (Localhost file) type path h = rw (h.0, h.1, h.2) refl
written_only Unconfined type path h = rw (h.0, h.1) refl

profile_only : (tree : Data) (profile : SeccompProfile) → HasProfile tree profile
    → profile_of tree ≡ Ok profile
unfolding profile_of profile_in
profile_only tree profile h =
    rw (
      required_only object (codes "profile") tree h.0 h.1,
      required_only text (codes "type") h.0 h.2.name h.2.there,
      optional_only text (codes "path") h.0 h.2.path h.2.path_there,
    ) (written_only profile h.2.name h.2.path h.2.written)

abbrev name_of : Call → CallName
name_of (call.RunPodSandbox uid) = name.RunPodSandbox
name_of (call.StopPodSandbox uid grace) = name.StopPodSandbox
name_of (call.RemovePodSandbox uid) = name.RemovePodSandbox
name_of (call.CreateContainer key image profile) = name.CreateContainer
name_of (call.StartContainer key) = name.StartContainer
name_of (call.StopContainer key grace) = name.StopContainer
name_of (call.RemoveContainer key) = name.RemoveContainer
name_of (call.ContainerStatus key) = name.ContainerStatus
name_of (call.ListContainers uid) = name.ListContainers
name_of (call.ContainerStatuses uid) = name.ContainerStatuses

name_only : (c : Call) → call_named (call_name c) ≡ Ok (name_of c)
unfolding call_named
name_only (call.RunPodSandbox uid) = refl
name_only (call.StopPodSandbox uid grace) = refl
name_only (call.RemovePodSandbox uid) = refl
name_only (call.CreateContainer key image profile) = refl
name_only (call.StartContainer key) = refl
name_only (call.StopContainer key grace) = refl
name_only (call.RemoveContainer key) = refl
name_only (call.ContainerStatus key) = refl
name_only (call.ListContainers uid) = refl
name_only (call.ContainerStatuses uid) = refl

by_uid_only : (make : List ℕ → Call) (tree : Data) (uid : List ℕ) → HasUid tree uid
    → by_uid make tree ≡ Ok (make uid)
unfolding by_uid
by_uid_only make tree uid h = rw (fitting_only is_uid (codes "uid") tree uid h.0 h.1) refl

by_key_only : (make : Key → Call) (tree : Data) (key : Key) → HasKey tree key
    → by_key make tree ≡ Ok (make key)
unfolding by_key
by_key_only make tree key h = rw (key_only tree key h) refl

by_only : (version : Version) (tree : Data) (c : Call) → IsCallOf version c → HasFields tree c
    → call_by version (name_of c) tree ≡ Ok c
unfolding stop_pod_of create_of stop_of
by_only version tree (call.RunPodSandbox uid) v h = by_uid_only call.RunPodSandbox tree uid h
by_only version tree (call.StopPodSandbox uid grace) v h =
    rw (
      fitting_only is_uid (codes "uid") tree uid h.0.0 h.0.1,
      required_only whole (codes "grace") tree grace h.1,
    ) refl
by_only version tree (call.RemovePodSandbox uid) v h = by_uid_only call.RemovePodSandbox tree uid h
by_only version tree (call.CreateContainer key image profile) v h =
    rw (
      key_only tree key h.0,
      fitting_only is_descending (codes "image") tree image h.1.0 h.1.1,
      profile_only tree profile h.2,
    ) refl
by_only version tree (call.StartContainer key) v h = by_key_only call.StartContainer tree key h
by_only version tree (call.StopContainer key grace) v h =
    rw (key_only tree key h.0, required_only whole (codes "grace") tree grace h.1) refl
by_only version tree (call.RemoveContainer key) v h = by_key_only call.RemoveContainer tree key h
by_only version tree (call.ContainerStatus key) v h = by_key_only call.ContainerStatus tree key h
by_only version tree (call.ListContainers uid) v h = by_uid_only call.ListContainers tree uid h
by_only version tree (call.ContainerStatuses uid) v h = rw v (by_uid_only call.ContainerStatuses tree uid h)

pub numbered_only : (version : Version) (tree : Data) (id : ℕ)
    → HasField whole (codes "v") tree (version_number version) → HasField whole (codes "id") tree id
    → numbered version tree ≡ Ok id
unfolding numbered
numbered_only version tree id v there =
    rw (
      required_only whole (codes "v") tree (version_number version) v,
      eq-eqb (version_number version) (version_number version) refl,
    )
    (required_only whole (codes "id") tree id there)

pub request_only : (version : Version) (tree : Data) (request : Request) → IsRequest version tree request
    → request_of version tree ≡ Ok request
unfolding request_of call_of
request_only version tree request h =
    rw (
      numbered_only version tree request.id h.v h.id,
      required_only text (codes "call") tree (call_name request.call) h.call,
      name_only request.call,
      by_only version tree request.call h.in_version h.fields,
    ) refl
