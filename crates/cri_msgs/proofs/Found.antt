-- A request that is read is right: each reading that succeeds returns what the tree has.
use Rattle.std.proofs.Common.{◌≡◌, ℕ, eqb, List, not, codes, cond, Bool, true, false, Option, Some, None}
use Rattle.std.proofs.Common.{Result, Ok, Err, refl, subst, ◌∙◌, eqb-true}
use Rattle.std.specs.Str.{bytes_eq}
use Rattle.std.proofs.lemmas.Slice.Eq.{bytes_eq-Decides}
use Rattle.serde_json.specs.Data.{Data}
use Rattle.json_tree.specs.Tree.{object, text, whole, word}
use Rattle.json_tree.specs.Reading.{refuse_if, required, optional, HasField}
use Rattle.json_tree.specs.declared.faults.FieldFault.TheVariants.{WrongType}
use Rattle.json_tree.proofs.Loops.{bind_ok, then_ok}
use Rattle.json_tree.proofs.Fields.{refuse_if_ok, required_found, optional_found}
use Rattle.manifest.specs.declared.profiles.SeccompProfile.{SeccompProfile}
use Rattle.manifest.specs.declared.profiles.SeccompProfile.TheVariants.{RuntimeDefault, Localhost, Unconfined}
use Rattle.manifest.specs.Pod.{IsWritten}
use Rattle.manifest.specs.Texts.{is_descending, is_label, is_uid}
use Rattle.manifest.proofs.Found.{passed}
use Rattle.cri_msgs.specs.declared.calls.Call.{Call}
use Rattle.cri_msgs.specs.declared.calls.Call.TheVariants as call
use Rattle.cri_msgs.specs.declared.calls.Request.{Request}
use Rattle.cri_msgs.specs.declared.keys.ContainerMetadata.{ContainerMetadata}
use Rattle.cri_msgs.specs.declared.keys.Key.{Key}
use Rattle.cri_msgs.specs.declared.names.CallName.{CallName}
use Rattle.cri_msgs.specs.declared.names.CallName.TheVariants as name
use Rattle.cri_msgs.specs.declared.version.Version.{Version}
use Rattle.cri_msgs.specs.declared.version.Version.TheVariants.{V1, V2}
use Rattle.cri_msgs.specs.Names.{call_name, version_number}
use Rattle.cri_msgs.specs.Reading.{fitting, container_of, key_of, without_path, with_path, profile_named}
use Rattle.cri_msgs.specs.Reading.{profile_in, profile_of, call_named, by_uid, by_key, stop_pod_of, create_of}
use Rattle.cri_msgs.specs.Reading.{stop_of, call_by, numbered, call_of, request_of}
use Rattle.cri_msgs.specs.Requests.{HasUid, HasContainer, HasKey, HasProfile, HasFields, IsCallOf, IsRequest}

same_bytes : (one other : List ℕ) → bytes_eq one other ≡ true → one ≡ other
same_bytes one other h = (bytes_eq-Decides one other).0 h

-- the answer of a chain of tests is right if each answer is
pub one_of : {A E : Type 0} (P : A → Type 0) (test : Bool) (one others : Result A E)
    → (test ≡ true → (y : A) → one ≡ Ok y → P y) → ((y : A) → others ≡ Ok y → P y) → (y : A)
    → cond test one others ≡ Ok y → P y
one_of P true one others here rest y h = here refl y h
one_of P false one others here rest y h = rest y h

pub none_of : {A E : Type 0} (P : A → Type 0) (e : E) (y : A) → Err e ≡ Ok y → P y
none_of P e y h = absurd cc

pub is_this : {A E : Type 0} (P : A → Type 0) (x y : A) → P x → ◌≡◌ {A = Result A E} (Ok x) (Ok y) → P y
is_this P x y p h =
    let same : x ≡ y = cc in
    subst P same p

-- the text was this one
pub named : {A E : Type 0} (P : A → Type 0) (text want : List ℕ) (x : A) → (text ≡ want → P x)
    → bytes_eq text want ≡ true → (y : A) → ◌≡◌ {A = Result A E} (Ok x) (Ok y) → P y
named P text want x p is y h = is_this P x y (p (same_bytes text want is)) h

pub fitting_found : (test : List ℕ → Bool) (key : List ℕ) (tree : Data) (x : List ℕ)
    → fitting test key tree ≡ Ok x → HasField text key tree x × (test x ≡ true)
unfolding fitting
fitting_found test key tree x h =
    let given = bind_ok (required text key tree) _ _ h in
    let fits = then_ok (refuse_if (not (test given.0)) WrongType) _ _ given.2 in
    is_this (λ n. HasField text key tree n × (test n ≡ true)) given.0 x (
      required_found text key tree given.0 given.1,
      passed (test given.0) (refuse_if_ok _ WrongType fits.0 fits.1),
    ) fits.2

pub container_found : (tree : Data) (c : ContainerMetadata) → container_of tree ≡ Ok c → HasContainer tree c
unfolding container_of
container_found tree c h =
    let name = bind_ok (fitting is_label (codes "name") tree) _ _ h in
    let attempt = bind_ok (required word (codes "attempt") tree) _ _ name.2 in
    let there = fitting_found is_label (codes "name") tree name.0 name.1 in
    is_this (HasContainer tree) (record { name = name.0; attempt = attempt.0 }) c (record {
      name = there.0;
      name_fits = there.1;
      attempt = required_found word (codes "attempt") tree attempt.0 attempt.1;
    }) attempt.2

key_found : (tree : Data) (key : Key) → key_of tree ≡ Ok key → HasKey tree key
unfolding key_of
key_found tree key h =
    let uid = bind_ok (fitting is_uid (codes "uid") tree) _ _ h in
    let container = bind_ok (container_of tree) _ _ uid.2 in
    is_this (HasKey tree) (record { uid = uid.0; container = container.0 }) key
    (fitting_found is_uid (codes "uid") tree uid.0 uid.1, container_found tree container.0 container.1)
    container.2

without_found : (P : SeccompProfile → Type 0) (profile : SeccompProfile) (path : Option (List ℕ))
    → (path ≡ None → P profile) → (y : SeccompProfile) → without_path profile path ≡ Ok y → P y
without_found P profile None p y h = is_this P profile y (p refl) h
without_found P profile (Some path) p y h = absurd cc

with_found : (type : List ℕ) (path : Option (List ℕ)) → type ≡ codes "Localhost" → (y : SeccompProfile)
    → with_path path ≡ Ok y → IsWritten y type path
with_found type None is y h = absurd cc
with_found type (Some path) is y h =
    let P : SeccompProfile → Type 0 = λ p. IsWritten p type (Some path) in
    one_of P (is_descending path) (Ok (Localhost path)) (Err WrongType) (λ fits z.
    is_this P (Localhost path) z (is, refl, fits)) (none_of P WrongType) y h

written_found : (type : List ℕ) (path : Option (List ℕ)) (profile : SeccompProfile)
    → profile_named type path ≡ Ok profile → IsWritten profile type path
unfolding profile_named
written_found type path profile h =
    let P : SeccompProfile → Type 0 = λ p. IsWritten p type path in
    one_of P (bytes_eq type (codes "RuntimeDefault")) _ _
    (λ e. without_found P RuntimeDefault path (λ none. (same_bytes _ _ e, none)))
    (one_of P (bytes_eq type (codes "Localhost")) _ _ (λ e. with_found type path (same_bytes _ _ e))
    (one_of P (bytes_eq type (codes "Unconfined")) _ _
    (λ e. without_found P Unconfined path (λ none. (same_bytes _ _ e, none))) (none_of P WrongType)))
    profile h

profile_found : (tree : Data) (profile : SeccompProfile) → profile_of tree ≡ Ok profile
    → HasProfile tree profile
unfolding profile_of profile_in
profile_found tree profile h =
    let found = bind_ok (required object (codes "profile") tree) _ _ h in
    let type = bind_ok (required text (codes "type") found.0) _ _ found.2 in
    let path = bind_ok (optional text (codes "path") found.0) _ _ type.2 in (
      found.0,
      required_found object (codes "profile") tree found.0 found.1,
      record {
        name = type.0;
        there = required_found text (codes "type") found.0 type.0 type.1;
        path = path.0;
        path_there = optional_found text (codes "path") found.0 path.0 path.1;
        written = written_found type.0 path.0 profile path.2;
      },
    )

-- the name of a call without its fields
abbrev pub text_of : CallName → List ℕ
text_of name.RunPodSandbox = codes "RunPodSandbox"
text_of name.StopPodSandbox = codes "StopPodSandbox"
text_of name.RemovePodSandbox = codes "RemovePodSandbox"
text_of name.CreateContainer = codes "CreateContainer"
text_of name.StartContainer = codes "StartContainer"
text_of name.StopContainer = codes "StopContainer"
text_of name.RemoveContainer = codes "RemoveContainer"
text_of name.ContainerStatus = codes "ContainerStatus"
text_of name.ListContainers = codes "ListContainers"
text_of name.ContainerStatuses = codes "ContainerStatuses"

name_found : (found : List ℕ) (which : CallName) → call_named found ≡ Ok which → found ≡ text_of which
unfolding call_named
name_found found which h =
    let P : CallName → Type 0 = λ n. found ≡ text_of n in
    one_of P _ _ _ (named P found (codes "RunPodSandbox") name.RunPodSandbox (λ e. e))
    (one_of P _ _ _ (named P found (codes "StopPodSandbox") name.StopPodSandbox (λ e. e))
    (one_of P _ _ _ (named P found (codes "RemovePodSandbox") name.RemovePodSandbox (λ e. e))
    (one_of P _ _ _ (named P found (codes "CreateContainer") name.CreateContainer (λ e. e))
    (one_of P _ _ _ (named P found (codes "StartContainer") name.StartContainer (λ e. e))
    (one_of P _ _ _ (named P found (codes "StopContainer") name.StopContainer (λ e. e))
    (one_of P _ _ _ (named P found (codes "RemoveContainer") name.RemoveContainer (λ e. e))
    (one_of P _ _ _ (named P found (codes "ContainerStatus") name.ContainerStatus (λ e. e))
    (one_of P _ _ _ (named P found (codes "ListContainers") name.ListContainers (λ e. e))
    (one_of P _ _ _ (named P found (codes "ContainerStatuses") name.ContainerStatuses (λ e. e))
    (none_of P WrongType)))))))))) which h

-- what a call has in this version
abbrev IsCall : Version → Data → List ℕ → Call → Type 0
IsCall version tree called c = (called ≡ call_name c) × IsCallOf version c × HasFields tree c

uid_found : (P : Call → Type 0) (make : List ℕ → Call) (tree : Data)
    → ((uid : List ℕ) → HasUid tree uid → P (make uid)) → (c : Call) → by_uid make tree ≡ Ok c → P c
unfolding by_uid
uid_found P make tree p c h =
    let uid = bind_ok (fitting is_uid (codes "uid") tree) _ _ h in
    is_this P (make uid.0) c (p uid.0 (fitting_found is_uid (codes "uid") tree uid.0 uid.1)) uid.2

key_call_found : (P : Call → Type 0) (make : Key → Call) (tree : Data)
    → ((key : Key) → HasKey tree key → P (make key)) → (c : Call) → by_key make tree ≡ Ok c → P c
unfolding by_key
key_call_found P make tree p c h =
    let key = bind_ok (key_of tree) _ _ h in
    is_this P (make key.0) c (p key.0 (key_found tree key.0 key.1)) key.2

stop_pod_found : (version : Version) (tree : Data) (c : Call) → stop_pod_of tree ≡ Ok c
    → IsCall version tree (codes "StopPodSandbox") c
unfolding stop_pod_of
stop_pod_found version tree c h =
    let uid = bind_ok (fitting is_uid (codes "uid") tree) _ _ h in
    let grace = bind_ok (required whole (codes "grace") tree) _ _ uid.2 in
    is_this (IsCall version tree (codes "StopPodSandbox")) (call.StopPodSandbox uid.0 grace.0) c (
      refl,
      tt,
      (
        fitting_found is_uid (codes "uid") tree uid.0 uid.1,
        required_found whole (codes "grace") tree grace.0 grace.1,
      ),
    ) grace.2

stop_found : (version : Version) (tree : Data) (c : Call) → stop_of tree ≡ Ok c
    → IsCall version tree (codes "StopContainer") c
unfolding stop_of
stop_found version tree c h =
    let key = bind_ok (key_of tree) _ _ h in
    let grace = bind_ok (required whole (codes "grace") tree) _ _ key.2 in
    is_this (IsCall version tree (codes "StopContainer")) (call.StopContainer key.0 grace.0) c (
      refl,
      tt,
      (key_found tree key.0 key.1, required_found whole (codes "grace") tree grace.0 grace.1),
    ) grace.2

create_found : (version : Version) (tree : Data) (c : Call) → create_of tree ≡ Ok c
    → IsCall version tree (codes "CreateContainer") c
unfolding create_of
create_found version tree c h =
    let key = bind_ok (key_of tree) _ _ h in
    let image = bind_ok (fitting is_descending (codes "image") tree) _ _ key.2 in
    let profile = bind_ok (profile_of tree) _ _ image.2 in
    is_this (IsCall version tree (codes "CreateContainer")) (call.CreateContainer key.0 image.0 profile.0) c (
      refl,
      tt,
      (
        key_found tree key.0 key.1,
        fitting_found is_descending (codes "image") tree image.0 image.1,
        profile_found tree profile.0 profile.1,
      ),
    ) profile.2

by_found : (version : Version) (which : CallName) (tree : Data) (c : Call) → call_by version which tree ≡ Ok c
    → IsCall version tree (text_of which) c
by_found version name.RunPodSandbox tree c h =
    uid_found (IsCall version tree (codes "RunPodSandbox")) call.RunPodSandbox tree (λ uid is.
    (refl, tt, is)) c h
by_found version name.StopPodSandbox tree c h = stop_pod_found version tree c h
by_found version name.RemovePodSandbox tree c h =
    uid_found (IsCall version tree (codes "RemovePodSandbox")) call.RemovePodSandbox tree (λ uid is.
    (refl, tt, is)) c h
by_found version name.CreateContainer tree c h = create_found version tree c h
by_found version name.StartContainer tree c h =
    key_call_found (IsCall version tree (codes "StartContainer")) call.StartContainer tree (λ key is.
    (refl, tt, is)) c h
by_found version name.StopContainer tree c h = stop_found version tree c h
by_found version name.RemoveContainer tree c h =
    key_call_found (IsCall version tree (codes "RemoveContainer")) call.RemoveContainer tree (λ key is.
    (refl, tt, is)) c h
by_found version name.ContainerStatus tree c h =
    key_call_found (IsCall version tree (codes "ContainerStatus")) call.ContainerStatus tree (λ key is.
    (refl, tt, is)) c h
by_found version name.ListContainers tree c h =
    uid_found (IsCall version tree (codes "ListContainers")) call.ListContainers tree (λ uid is.
    (refl, tt, is)) c h
by_found V1 name.ContainerStatuses tree c h = absurd cc
by_found V2 name.ContainerStatuses tree c h =
    uid_found (IsCall V2 tree (codes "ContainerStatuses")) call.ContainerStatuses tree (λ uid is.
    (refl, refl, is)) c h

pub numbered_found : (version : Version) (tree : Data) (id : ℕ) → numbered version tree ≡ Ok id
    → HasField whole (codes "v") tree (version_number version) × HasField whole (codes "id") tree id
unfolding numbered
numbered_found version tree id h =
    let v = bind_ok (required whole (codes "v") tree) _ _ h in
    let fits = then_ok (refuse_if (not (eqb v.0 (version_number version))) WrongType) _ _ v.2 in
    let same = eqb-true v.0 (version_number version) (passed _ (refuse_if_ok _ WrongType fits.0 fits.1)) in (
      subst (HasField whole (codes "v") tree) same (required_found whole (codes "v") tree v.0 v.1),
      required_found whole (codes "id") tree id fits.2,
    )

pub request_found : (version : Version) (tree : Data) (request : Request)
    → request_of version tree ≡ Ok request → IsRequest version tree request
unfolding request_of call_of
request_found version tree request h =
    let id = bind_ok (numbered version tree) _ _ h in
    let made = bind_ok (call_of version tree) _ _ id.2 in
    let called = bind_ok (required text (codes "call") tree) _ _ made.1 in
    let which = bind_ok (call_named called.0) _ _ called.2 in
    let head = numbered_found version tree id.0 id.1 in
    let is = by_found version which.0 tree made.0 which.2 in
    let there = required_found text (codes "call") tree called.0 called.1 in
    is_this (IsRequest version tree) (record { id = id.0; call = made.0 }) request (record {
      v = head.0;
      id = head.1;
      call = subst (HasField text (codes "call") tree) (name_found called.0 which.0 which.1 ∙ is.0) there;
      in_version = is.1;
      fields = is.2;
    }) made.2
