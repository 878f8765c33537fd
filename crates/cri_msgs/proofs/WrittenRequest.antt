-- The written tree of a request is a tree of that request.
use Rattle.std.proofs.Common.{◌≡◌, ◌<◌, ◌≤◌, ◌^◌, ℕ, List, length, codes, false, Some, None, Result, Ok, Err}
use Rattle.std.proofs.Common.{Vec, Global, refl, sym, subst, arith}
use Rattle.std.proofs.lemmas.Bool.{lt-ltb}
use Rattle.std.specs.Prelude.{IfOk}
use Rattle.std.specs.Str.{IsUtf8}
use Rattle.std.specs.declared.alloc.AllocError.{AllocError}
use Rattle.serde_json.specs.Data.{Data, string, depth}
use Rattle.serde_json.specs.Find.{get}
use Rattle.serde_json.specs.Read.{max_depth, read}
use Rattle.serde_json.specs.Written.{compact_text, has_float}
use Rattle.serde_json.proofs.OnLiterals.{serde_json_on_literals}
use Rattle.json_tree.specs.Tree.{member, object, text, whole, word}
use Rattle.json_tree.specs.Reading.{HasField}
use Rattle.json_tree.proofs.Utf8.{told}
use Rattle.manifest.specs.declared.profiles.SeccompProfile.{SeccompProfile}
use Rattle.manifest.specs.declared.profiles.SeccompProfile.TheVariants.{RuntimeDefault, Localhost, Unconfined}
use Rattle.cri_msgs.specs.declared.calls.Call.{Call}
use Rattle.cri_msgs.specs.declared.calls.Call.TheVariants as call
use Rattle.cri_msgs.specs.declared.calls.Request.{Request}
use Rattle.cri_msgs.specs.declared.keys.ContainerMetadata.{ContainerMetadata}
use Rattle.cri_msgs.specs.declared.keys.Key.{Key}
use Rattle.cri_msgs.specs.declared.version.TheConstants.{MAX_TEXT}
use Rattle.cri_msgs.specs.declared.version.Version.{Version}
use Rattle.cri_msgs.proofs.SizesOfMessages.{not_empty, request_short}
use Rattle.cri_msgs.specs.Fits.{FitsContainer, FitsUid, FitsKey, FitsProfile, FitsCall, IsSmall}
use Rattle.cri_msgs.specs.Names.{call_name, version_number}
use Rattle.cri_msgs.specs.Requests.{HasUid, HasContainer, HasKey, IsProfile, HasFields, IsCallOf, IsRequest}
use Rattle.cri_msgs.specs.Requests.{ReadsRequest}
use Rattle.cri_msgs.specs.Written.{whole_number, profile_tree, uid_tree, uid_grace_tree, key_tree}
use Rattle.cri_msgs.specs.Written.{key_grace_tree, create_tree, call_tree}

pub has_text : (key : List ℕ) (tree : Data) (x : List ℕ) → get key tree ≡ Some (string x)
    → HasField text key tree x
has_text key tree x is = (string x, is, refl)

pub has_whole : (key : List ℕ) (tree : Data) (n : ℕ) → get key tree ≡ Some (whole_number n)
    → HasField whole key tree n
unfolding whole
has_whole key tree n is = (whole_number n, is, refl)

has_word : (key : List ℕ) (tree : Data) (n : ℕ) → n < 2 ^ 32 → get key tree ≡ Some (whole_number n)
    → HasField word key tree n
unfolding word whole
has_word key tree n small is = (whole_number n, is, rw (lt-ltb n (2 ^ 32) small) refl)

pub has_container : (tree : Data) (c : ContainerMetadata) → FitsContainer c
    → get (codes "name") tree ≡ Some (string c.name)
    → get (codes "attempt") tree ≡ Some (whole_number c.attempt) → HasContainer tree c
has_container tree c fits name attempt = record {
  name = has_text (codes "name") tree c.name name;
  name_fits = fits.name;
  attempt = has_word (codes "attempt") tree c.attempt fits.attempt attempt;
}

profile_is : (profile : SeccompProfile) → FitsProfile profile → IsProfile (profile_tree profile) profile
unfolding serde_json_on_literals member
profile_is RuntimeDefault fits = record {
  name = codes "RuntimeDefault";
  there =
      has_text (codes "type") (profile_tree RuntimeDefault) (codes "RuntimeDefault") refl;
  path = None;
  path_there = refl;
  written = (refl, refl);
}
profile_is (Localhost path) fits = record {
  name = codes "Localhost";
  there =
      has_text (codes "type") (profile_tree (Localhost path)) (codes "Localhost") refl;
  path = Some path;
  path_there = (string path, refl, refl);
  written = (refl, refl, fits);
}
profile_is Unconfined fits = record {
  name = codes "Unconfined";
  there =
      has_text (codes "type") (profile_tree Unconfined) (codes "Unconfined") refl;
  path = None;
  path_there =
      refl;
  written = (refl, refl);
}

profile_object : (profile : SeccompProfile) → object (profile_tree profile) ≡ Some (profile_tree profile)
profile_object RuntimeDefault = refl
profile_object (Localhost path) = refl
profile_object Unconfined = refl

has_uid : (tree : Data) (uid : List ℕ) → FitsUid uid → get (codes "uid") tree ≡ Some (string uid)
    → HasUid tree uid
has_uid tree uid fits is = (has_text (codes "uid") tree uid is, fits)

has_key : (tree : Data) (key : Key) → FitsKey key → get (codes "uid") tree ≡ Some (string key.uid)
    → get (codes "name") tree ≡ Some (string key.container.name)
    → get (codes "attempt") tree ≡ Some (whole_number key.container.attempt) → HasKey tree key
has_key tree key fits uid name attempt =
    (has_uid tree key.uid fits.0 uid, has_container tree key.container fits.1 name attempt)

uid_is : (version : Version) (id : ℕ) (name uid : List ℕ) → FitsUid uid
    → HasUid (uid_tree version id name uid) uid
unfolding serde_json_on_literals
uid_is version id name uid fits = has_uid (uid_tree version id name uid) uid fits refl

key_is : (version : Version) (id : ℕ) (name : List ℕ) (key : Key) → FitsKey key
    → HasKey (key_tree version id name key) key
unfolding serde_json_on_literals
key_is version id name key fits = has_key (key_tree version id name key) key fits refl refl refl

stop_pod_is : (version : Version) (id : ℕ) (uid : List ℕ) (grace : ℕ) → FitsUid uid × IsSmall grace
    → HasFields (uid_grace_tree version id uid grace) (call.StopPodSandbox uid grace)
unfolding serde_json_on_literals
stop_pod_is version id uid grace fits =
    let tree = uid_grace_tree version id uid grace in
    (has_uid tree uid fits.0 refl, has_whole (codes "grace") tree grace refl)

stop_is : (version : Version) (id : ℕ) (key : Key) (grace : ℕ) → FitsKey key × IsSmall grace
    → HasFields (key_grace_tree version id key grace) (call.StopContainer key grace)
unfolding serde_json_on_literals
stop_is version id key grace fits =
    let tree = key_grace_tree version id key grace in
    (has_key tree key fits.0 refl refl refl, has_whole (codes "grace") tree grace refl)

create_is : (version : Version) (id : ℕ) (key : Key) (image : List ℕ) (profile : SeccompProfile)
    → FitsCall (call.CreateContainer key image profile)
    → HasFields (create_tree version id key image profile) (call.CreateContainer key image profile)
unfolding serde_json_on_literals
create_is version id key image profile fits =
    let tree = create_tree version id key image profile in (
      has_key tree key fits.0 refl refl refl,
      (has_text (codes "image") tree image refl, fits.1),
      (profile_tree profile, (profile_tree profile, refl, profile_object profile), profile_is profile fits.2),
    )

fields_are : (version : Version) (id : ℕ) (c : Call) → FitsCall c → HasFields (call_tree version id c) c
unfolding call_tree
fields_are version id (call.RunPodSandbox uid) fits = uid_is version id (codes "RunPodSandbox") uid fits
fields_are version id (call.StopPodSandbox uid grace) fits = stop_pod_is version id uid grace fits
fields_are version id (call.RemovePodSandbox uid) fits = uid_is version id (codes "RemovePodSandbox") uid fits
fields_are version id (call.CreateContainer key image profile) fits =
    create_is version id key image profile fits
fields_are version id (call.StartContainer key) fits = key_is version id (codes "StartContainer") key fits
fields_are version id (call.StopContainer key grace) fits = stop_is version id key grace fits
fields_are version id (call.RemoveContainer key) fits = key_is version id (codes "RemoveContainer") key fits
fields_are version id (call.ContainerStatus key) fits = key_is version id (codes "ContainerStatus") key fits
fields_are version id (call.ListContainers uid) fits = uid_is version id (codes "ListContainers") uid fits
fields_are version id (call.ContainerStatuses uid) fits =
    uid_is version id (codes "ContainerStatuses") uid fits

-- the members of each request
pub record HasHead (version : Version) (id : ℕ) (c : Call) (tree : Data) : Type 0 where
  pub v : get (codes "v") tree ≡ Some (whole_number (version_number version))
  pub id_there : get (codes "id") tree ≡ Some (whole_number id)
  pub call_there : get (codes "call") tree ≡ Some (string (call_name c))
  pub whole_numbers : has_float tree ≡ false

head_is : (version : Version) (id : ℕ) (c : Call) → HasHead version id c (call_tree version id c)
unfolding call_tree serde_json_on_literals
head_is version id (call.RunPodSandbox uid) =
    record { v = refl; id_there = refl; call_there = refl; whole_numbers = refl }
head_is version id (call.StopPodSandbox uid grace) =
    record { v = refl; id_there = refl; call_there = refl; whole_numbers = refl }
head_is version id (call.RemovePodSandbox uid) =
    record { v = refl; id_there = refl; call_there = refl; whole_numbers = refl }
head_is version id (call.CreateContainer key image RuntimeDefault) =
    record { v = refl; id_there = refl; call_there = refl; whole_numbers = refl }
head_is version id (call.CreateContainer key image (Localhost path)) =
    record { v = refl; id_there = refl; call_there = refl; whole_numbers = refl }
head_is version id (call.CreateContainer key image Unconfined) =
    record { v = refl; id_there = refl; call_there = refl; whole_numbers = refl }
head_is version id (call.StartContainer key) =
    record { v = refl; id_there = refl; call_there = refl; whole_numbers = refl }
head_is version id (call.StopContainer key grace) =
    record { v = refl; id_there = refl; call_there = refl; whole_numbers = refl }
head_is version id (call.RemoveContainer key) =
    record { v = refl; id_there = refl; call_there = refl; whole_numbers = refl }
head_is version id (call.ContainerStatus key) =
    record { v = refl; id_there = refl; call_there = refl; whole_numbers = refl }
head_is version id (call.ListContainers uid) =
    record { v = refl; id_there = refl; call_there = refl; whole_numbers = refl }
head_is version id (call.ContainerStatuses uid) =
    record { v = refl; id_there = refl; call_there = refl; whole_numbers = refl }

request_is : (version : Version) (request : Request) → FitsCall request.call → IsCallOf version request.call
    → IsRequest version (call_tree version request.id request.call) request
request_is version request fits known =
    let head = head_is version request.id request.call in
    let tree = call_tree version request.id request.call in
    record {
      v = has_whole (codes "v") tree (version_number version) head.v;
      id = has_whole (codes "id") tree request.id head.id_there;
      call = has_text (codes "call") tree (call_name request.call) head.call_there;
      in_version = known;
      fields = fields_are version request.id request.call fits;
    }

some : (version : Version) (id : ℕ) (c : Call) → 0 < length (compact_text (call_tree version id c))
some version id c = not_empty (codes "v") (call_tree version id c) _ (head_is version id c).v

pub no_float : (version : Version) (id : ℕ) (c : Call) → has_float (call_tree version id c) ≡ false
no_float version id c = (head_is version id c).whole_numbers

shallow : (version : Version) (id : ℕ) (c : Call) → depth (call_tree version id c) ≤ 2
unfolding call_tree
shallow version id (call.RunPodSandbox uid) = omega arith
shallow version id (call.StopPodSandbox uid grace) = omega arith
shallow version id (call.RemovePodSandbox uid) = omega arith
shallow version id (call.CreateContainer key image RuntimeDefault) = omega arith
shallow version id (call.CreateContainer key image (Localhost path)) = omega arith
shallow version id (call.CreateContainer key image Unconfined) = omega arith
shallow version id (call.StartContainer key) = omega arith
shallow version id (call.StopContainer key grace) = omega arith
shallow version id (call.RemoveContainer key) = omega arith
shallow version id (call.ContainerStatus key) = omega arith
shallow version id (call.ListContainers uid) = omega arith
shallow version id (call.ContainerStatuses uid) = omega arith

-- the text of a request reads as that request
pub reads : (version : Version) (request : Request) (tree : Data) (r : Result (Vec ℕ Global) AllocError)
    → tree ≡ call_tree version request.id request.call → FitsCall request.call → IfOk r (λ b. IsUtf8 b.items)
    → IfOk r (λ b. depth tree ≤ max_depth → read b.items ≡ Some tree) → IsCallOf version request.call
    → IfOk r (λ b. ReadsRequest version b.items request)
reads version request tree (Err e) is fits utf8 back known = tt
reads version request tree (Ok bytes) is fits utf8 back known =
    let levels : depth tree ≤ max_depth = rw is (omega (arith, shallow version request.id request.call)) in
    record {
      tree = tree;
      is = told bytes.items tree utf8 (back levels);
      says = subst (λ t. IsRequest version t request) (sym is) (request_is version request fits known);
    }

-- the text fits into a frame
pub some_bytes : (version : Version) (request : Request) (tree : Data) (r : Result (Vec ℕ Global) AllocError)
    → tree ≡ call_tree version request.id request.call
    → IfOk r (λ b. has_float tree ≡ false → b.items ≡ compact_text tree) → IfOk r (λ b. 0 < length b.items)
some_bytes version request tree (Err e) is text = tt
some_bytes version request tree (Ok bytes) is text =
    rw (text (rw is (no_float version request.id request.call)), is) (some version request.id request.call)

pub few_bytes : (version : Version) (request : Request) (tree : Data) (r : Result (Vec ℕ Global) AllocError)
    → tree ≡ call_tree version request.id request.call → IsSmall request.id → FitsCall request.call
    → IfOk r (λ b. has_float tree ≡ false → b.items ≡ compact_text tree)
    → IfOk r (λ b. length b.items ≤ MAX_TEXT)
few_bytes version request tree (Err e) is small fits text = tt
few_bytes version request tree (Ok bytes) is small fits text =
    rw (text (rw is (no_float version request.id request.call)), is)
    (request_short version request.id request.call small fits)
