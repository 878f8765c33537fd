-- The text of a message fits into a frame.
use Rattle.std.proofs.Common.{◌≡◌, ℕ, ◌<◌, ◌≤◌, ◌^◌, List, length, codes, ◌&&◌, Bool, true, false, Some, refl}
use Rattle.std.proofs.Common.{arith, leb}
use Rattle.std.specs.Prelude.{decimal, IsTrue}
use Rattle.std.proofs.lemmas.Bool.{leb-true}
use Rattle.std.proofs.lemmas.Fmt.{length-decimal-le}
use Rattle.serde_json.specs.Data.{Data, null, boolean, number, string, array, object}
use Rattle.serde_json.specs.Find.{get}
use Rattle.serde_json.specs.Written.{compact_text}
use Rattle.manifest.specs.declared.profiles.SeccompProfile.{SeccompProfile}
use Rattle.manifest.specs.declared.profiles.SeccompProfile.TheVariants.{RuntimeDefault, Localhost, Unconfined}
use Rattle.manifest.specs.Texts.{has_length_to, is_descending, is_label, is_uid}
use Rattle.cri_msgs.specs.declared.calls.Call.{Call}
use Rattle.cri_msgs.specs.declared.calls.Call.TheVariants as call
use Rattle.cri_msgs.specs.declared.keys.Key.{Key}
use Rattle.cri_msgs.specs.declared.version.Version.{Version}
use Rattle.cri_msgs.specs.declared.version.Version.TheVariants.{V1, V2}
use Rattle.cri_msgs.specs.Fits.{FitsCall, FitsKey, FitsProfile, FitsUid, IsSmall}
use Rattle.cri_msgs.specs.Names.{version_number}
use Rattle.cri_msgs.specs.Written.{profile_tree, uid_tree, uid_grace_tree, key_tree, key_grace_tree}
use Rattle.cri_msgs.specs.Written.{create_tree, call_tree}
use Rattle.cri_msgs.proofs.Sizes.{size, text_size}

pub is_first : (a b : Bool) → (a && b) ≡ true → a ≡ true
is_first true b h = refl
is_first false b h = absurd cc

is_second : (a b : Bool) → (a && b) ≡ true → b ≡ true
is_second true b h = h
is_second false b h = absurd cc

at_most : (most : ℕ) (s : List ℕ) → has_length_to most s ≡ true → length s ≤ most
at_most most s h = leb-true (length s) most (is_second (leb 1 (length s)) (leb (length s) most) h)

uid_length : (s : List ℕ) → IsTrue (is_uid s) → length s ≤ 317
unfolding is_uid
uid_length s h = at_most 317 s (is_first _ _ h)

pub label_length : (s : List ℕ) → IsTrue (is_label s) → length s ≤ 63
unfolding is_label
label_length s h = at_most 63 s (is_first _ _ (is_first _ _ h))

path_length : (s : List ℕ) → IsTrue (is_descending s) → length s ≤ 1024
unfolding is_descending
path_length s h = at_most 1024 s (is_first _ _ (is_first _ _ (is_first _ _ h)))

pub digits : (n : ℕ) → n < 2 ^ 64 → length (decimal n) ≤ 20
digits n small = length-decimal-le 20 n (omega arith) (omega (arith, small)) small

pub word_digits : (n : ℕ) → n < 2 ^ 32 → length (decimal n) ≤ 20
word_digits n small = digits n (omega (arith, small))

pub version_digits : (version : Version) → length (decimal (version_number version)) ≤ 20
version_digits V1 = digits 1 (omega arith)
version_digits V2 = digits 2 (omega arith)

profile_size : (profile : SeccompProfile) → FitsProfile profile → size (profile_tree profile) ≤ 6300
profile_size RuntimeDefault fits = omega arith
profile_size (Localhost path) fits = omega (arith, path_length path fits)
profile_size Unconfined fits = omega arith

uid_size : (version : Version) (id : ℕ) (name uid : List ℕ) → IsSmall id → length name ≤ 17 → FitsUid uid
    → size (uid_tree version id name uid) ≤ 16384
uid_size version id name uid small short fits =
    omega (arith, version_digits version, digits id small, uid_length uid fits, short)

key_size : (version : Version) (id : ℕ) (name : List ℕ) (key : Key) → IsSmall id → length name ≤ 17
    → FitsKey key → size (key_tree version id name key) ≤ 16384
key_size version id name key small short fits =
    omega (
      arith,
      version_digits version,
      digits id small,
      uid_length key.uid fits.0,
      short,
      label_length key.container.name fits.1.name,
      word_digits key.container.attempt fits.1.attempt,
    )

stop_pod_size : (version : Version) (id : ℕ) (uid : List ℕ) (grace : ℕ) → IsSmall id → FitsUid uid
    → IsSmall grace → size (uid_grace_tree version id uid grace) ≤ 16384
stop_pod_size version id uid grace small fits less =
    omega (arith, version_digits version, digits id small, digits grace less, uid_length uid fits)

stop_size : (version : Version) (id : ℕ) (key : Key) (grace : ℕ) → IsSmall id → FitsKey key → IsSmall grace
    → size (key_grace_tree version id key grace) ≤ 16384
stop_size version id key grace small fits less =
    omega (
      arith,
      version_digits version,
      digits id small,
      digits grace less,
      uid_length key.uid fits.0,
      label_length key.container.name fits.1.name,
      word_digits key.container.attempt fits.1.attempt,
    )

create_size : (version : Version) (id : ℕ) (key : Key) (image : List ℕ) (profile : SeccompProfile)
    → IsSmall id → FitsCall (call.CreateContainer key image profile)
    → size (create_tree version id key image profile) ≤ 16384
create_size version id key image profile small fits =
    omega (
      arith,
      version_digits version,
      digits id small,
      uid_length key.uid fits.0.0,
      label_length key.container.name fits.0.1.name,
      word_digits key.container.attempt fits.0.1.attempt,
      path_length image fits.1,
      profile_size profile fits.2,
    )

call_size : (version : Version) (id : ℕ) (c : Call) → IsSmall id → FitsCall c
    → size (call_tree version id c) ≤ 16384
unfolding call_tree
call_size version id (call.RunPodSandbox uid) small fits =
    uid_size version id (codes "RunPodSandbox") uid small (omega arith) fits
call_size version id (call.StopPodSandbox uid grace) small fits =
    stop_pod_size version id uid grace small fits.0 fits.1
call_size version id (call.RemovePodSandbox uid) small fits =
    uid_size version id (codes "RemovePodSandbox") uid small (omega arith) fits
call_size version id (call.CreateContainer key image profile) small fits =
    create_size version id key image profile small fits
call_size version id (call.StartContainer key) small fits =
    key_size version id (codes "StartContainer") key small (omega arith) fits
call_size version id (call.StopContainer key grace) small fits =
    stop_size version id key grace small fits.0 fits.1
call_size version id (call.RemoveContainer key) small fits =
    key_size version id (codes "RemoveContainer") key small (omega arith) fits
call_size version id (call.ContainerStatus key) small fits =
    key_size version id (codes "ContainerStatus") key small (omega arith) fits
call_size version id (call.ListContainers uid) small fits =
    uid_size version id (codes "ListContainers") uid small (omega arith) fits
call_size version id (call.ContainerStatuses uid) small fits =
    uid_size version id (codes "ContainerStatuses") uid small (omega arith) fits

-- an object's text begins with a bracket
pub not_empty : (key : List ℕ) (tree found : Data) → get key tree ≡ Some found
    → 0 < length (compact_text tree)
not_empty key null found h = absurd cc
not_empty key (boolean b) found h = absurd cc
not_empty key (number n) found h = absurd cc
not_empty key (string s) found h = absurd cc
not_empty key (array ds) found h = absurd cc
not_empty key (object ms) found h = omega arith

pub request_short : (version : Version) (id : ℕ) (c : Call) → IsSmall id → FitsCall c
    → length (compact_text (call_tree version id c)) ≤ 1048576
request_short version id c small fits =
    omega (arith, text_size (call_tree version id c), call_size version id c small fits)
