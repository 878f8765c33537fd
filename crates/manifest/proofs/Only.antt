-- Every pod is read: each reading of its tree succeeds and returns what the tree has.
use Rattle.std.proofs.Common.{◌≡◌, ℕ, ◌+◌, ◌<◌, List, [], ◌∷◌, ◌++◌, length, length-append, codes, eqb, Bool}
use Rattle.std.proofs.Common.{true, false, Option, Some, None, unwrap_or, Result, Ok, Err, refl, sym, ap}
use Rattle.std.proofs.Common.{subst, ◌∙◌, arith}
use Rattle.std.proofs.Math.Dec.{eqb-suc-zero}
use Rattle.std.proofs.lemmas.Bool.{le-ltb}
use Rattle.serde_json.specs.Data.{Data}
use Rattle.json_tree.specs.Tree.{flag, list, object, text, whole}
use Rattle.json_tree.specs.Reading.{◌>>=◌, if_there, in_order_after, document, HasField, Both}
use Rattle.json_place.proofs.PlacedFields.{required_only, optional_only}
use Rattle.json_tree.proofs.Loops.{bind_ok}
use Rattle.json_tree.proofs.After.{after_only}
use Rattle.lifecycle.specs.declared.policy.RestartPolicy.{RestartPolicy}
use Rattle.lifecycle.specs.declared.policy.RestartPolicy.TheVariants.{Always, OnFailure, Never}
use Rattle.manifest.specs.declared.containers.Container.{Container}
use Rattle.manifest.specs.declared.containers.TheConstants.{MAX_CONTAINERS}
use Rattle.manifest.specs.declared.pods.Pod.{Pod}
use Rattle.manifest.specs.declared.profiles.SeccompProfile.{SeccompProfile}
use Rattle.manifest.specs.declared.profiles.SeccompProfile.TheVariants.{RuntimeDefault, Localhost, Unconfined}
use Rattle.manifest.specs.Heads.{Lists, default_uid}
use Rattle.manifest.specs.Pod.{HasIdentity, IsPolicyOf, HasPolicy, HasGrace, IsWritten, IsProfile, SameWhere}
use Rattle.manifest.specs.Pod.{HasProfile, HasProfileWithin, HasPodProfile, HasSettingsWithin, IsContainer}
use Rattle.manifest.specs.Pod.{HasContainers, IsPod, ReadsPod}
use Rattle.manifest.specs.Reading.{named_by, says, namespace_of, checked_uid, uid_of, identity_of}
use Rattle.manifest.specs.Reading.{policy_named, policy_there, policy_of, grace_of, profile_named, profile_of}
use Rattle.manifest.specs.Reading.{profile_in, profile_within, pod_profile_of, terms_of, inits_of, others_of}
use Rattle.manifest.specs.Reading.{lists_of, kind_of, named_of, head_of, new_name_of, settings_in}
use Rattle.manifest.specs.Reading.{settings_within, context_of, container_of, container_at, listed_of}
use Rattle.manifest.specs.Reading.{containers_of, pod_of, reading_of}
use Rattle.manifest.specs.Texts.{is_descending, is_label, is_pod_name, is_uid}
use Rattle.manifest.proofs.Distinct.{AreApart, apart_at}
use Rattle.manifest.proofs.FoundPod.{both_length}

named_only : (test : List ℕ → Bool) (key : List ℕ) (tree : Data) (name : List ℕ) → HasField text key tree name
    → test name ≡ true → named_by test key tree ≡ Ok name
unfolding named_by
named_only test key tree name there fits = rw (required_only text key tree name there, fits) refl

abbrev UidIs : Option (List ℕ) → List ℕ → List ℕ → List ℕ → Type 0
UidIs given namespace name uid = uid ≡ unwrap_or given (default_uid namespace name)

checked_only : (given : Option (List ℕ)) (namespace name uid : List ℕ) → UidIs given namespace name uid
    → is_uid uid ≡ true → if_there checked_uid given ≡ Ok given
unfolding checked_uid
checked_only None namespace name uid is fits = refl
checked_only (Some word) namespace name uid is fits =
    let same : uid ≡ word = is in
    let good : is_uid word ≡ true = subst (λ u. is_uid u ≡ true) same fits in
    rw good refl

identity_only : (tree : Data) (namespace name uid : List ℕ) → HasIdentity tree namespace name uid
    → identity_of tree ≡ Ok (record { namespace = namespace; name = name; uid = uid })
unfolding identity_of namespace_of uid_of
identity_only tree namespace name uid h =
    rw (
      named_only is_pod_name (codes "name") tree name h.name_there h.name_fits,
      optional_only text (codes "namespace") tree h.given_namespace h.namespace_there,
      ← h.namespace_is,
      h.namespace_fits,
      optional_only text (codes "uid") tree h.given_uid h.uid_there,
      checked_only h.given_uid namespace name uid h.uid_is h.uid_fits,
      ← h.uid_is,
    ) refl

policy_there_only : (policy : RestartPolicy) (given : Option (List ℕ)) → IsPolicyOf policy given
    → policy_there given ≡ Ok policy
unfolding policy_named
policy_there_only Always None h = refl
policy_there_only Always (Some name) h = let same : name ≡ codes "Always" = h in rw same refl
policy_there_only OnFailure given h = rw h refl
policy_there_only Never given h = rw h refl

policy_only : (spec : Data) (policy : RestartPolicy) → HasPolicy spec policy → policy_of spec ≡ Ok policy
unfolding policy_of
policy_only spec policy h = rw (optional_only text (codes "restartPolicy") spec h.given h.there)
    (policy_there_only policy h.given h.is)

grace_only : (spec : Data) (grace : ℕ) → HasGrace spec grace → grace_of spec ≡ Ok grace
unfolding grace_of
grace_only spec grace h = rw (optional_only whole (codes "terminationGracePeriodSeconds") spec h.given
    h.there) (ap Ok (sym h.is))

written_only : (profile : SeccompProfile) (name : List ℕ) (path : Option (List ℕ))
    → IsWritten profile name path → profile_named name path ≡ Ok profile
unfolding profile_named
written_only RuntimeDefault name path h = rw (h.0, h.1) refl
written_only (Localhost file) name path h = rw (h.0, h.1, h.2) refl
written_only Unconfined name path h = rw (h.0, h.1) refl

profile_only : (tree : Data) (profile : SeccompProfile) → IsProfile tree profile
    → profile_of tree ≡ Ok profile
unfolding profile_of
profile_only tree profile h =
    rw (
      required_only text (codes "type") tree h.name h.there,
      optional_only text (codes "localhostProfile") tree h.path h.path_there,
    )
    (written_only profile h.name h.path h.written)

profile_where : (found : Option Data) (profile : Option SeccompProfile) → SameWhere IsProfile found profile
    → if_there profile_of found ≡ Ok profile
profile_where None None h = refl
profile_where None (Some profile) h = absurd h
profile_where (Some tree) None h = absurd h
profile_where (Some tree) (Some profile) h = rw (profile_only tree profile h) refl

profile_in_only : (context : Data) (profile : Option SeccompProfile) → HasProfile context profile
    → profile_in context ≡ Ok profile
unfolding profile_in
profile_in_only context profile h = rw (
  optional_only object (codes "seccompProfile") context h.found h.there,
  profile_where h.found profile h.is,
) refl

within_only : (context : Option Data) (profile : Option SeccompProfile) → HasProfileWithin context profile
    → profile_within context ≡ Ok profile
within_only None profile h = ap Ok (sym h)
within_only (Some context) profile h = profile_in_only context profile h

pod_profile_only : (spec : Data) (profile : Option SeccompProfile) → HasPodProfile spec profile
    → pod_profile_of spec ≡ Ok profile
unfolding pod_profile_of
pod_profile_only spec profile h = rw (
  optional_only object (codes "securityContext") spec h.context h.there,
  within_only h.context profile h.is,
) refl

settings_only : (context : Option Data) (privileged : Bool) (profile : Option SeccompProfile)
    → HasSettingsWithin context privileged profile
    → settings_within context ≡ Ok (record { privileged = privileged; profile = profile })
unfolding settings_in
settings_only None privileged profile h = rw (h.0, h.1) refl
settings_only (Some tree) privileged profile h =
    rw (
      optional_only flag (codes "privileged") tree h.given h.there,
      profile_in_only tree profile h.has_profile,
      ← h.is,
    ) refl

container_only : (done : List Container) (item : Data) (c : Container) (rest : List Container)
    → AreApart (done ++ c ∷ rest) → IsContainer item c → container_of done item ≡ Ok c
unfolding container_of new_name_of context_of
container_only done item c rest apart h =
    rw (
      h.an_object,
      named_only is_label (codes "name") item c.name h.name_there h.name_fits,
      apart_at done c rest apart,
      named_only is_descending (codes "image") item c.image h.image_there h.image_fits,
      optional_only object (codes "securityContext") item h.context h.context_there,
      settings_only h.context c.privileged c.profile h.settings,
    ) refl

after_append : {A B E : Type 0} (f : List B → A → Result B E) (done : List B) (xs ys : List A)
    → in_order_after f done (xs ++ ys) ≡ (in_order_after f done xs >>= λ more. in_order_after f more ys)
after_append f done [] ys = refl
after_append f done (x ∷ xs) ys =
    elim (f done x) as (λ r. (r >>= λ y. in_order_after f (done ++ y ∷ []) (xs ++ ys))
    ≡ ((r >>= λ y. in_order_after f (done ++ y ∷ []) xs) >>= λ more. in_order_after f more ys))
    [ Ok y ↦ after_append f (done ++ y ∷ []) xs ys | Err e ↦ refl ]

after_length : {A B E : Type 0} (f : List B → A → Result B E) (done : List B) (xs : List A) (ys : List B)
    → in_order_after f done xs ≡ Ok ys → length ys ≡ length done + length xs
after_length f done [] ys h =
    let same : done ≡ ys = cc in
    omega (arith, ap length same)
after_length f done (x ∷ xs) ys h =
    let one = bind_ok (f done x) _ _ h in
    let rest = after_length f (done ++ one.0 ∷ []) xs ys one.2 in
    let grown : length (done ++ one.0 ∷ []) ≡ length done + 1 = simp length-append refl in
    omega (arith, rest, grown)

-- if an item's place makes no difference, the lists are read alike
same_read : {A B E : Type 0} (f g : List B → A → Result B E)
    → ((done : List B) (x : A) (y : B) → f done x ≡ Ok y → g done x ≡ Ok y)
    → (done : List B) (xs : List A) (ys : List B) → in_order_after f done xs ≡ Ok ys
    → in_order_after g done xs ≡ Ok ys
same_read f g same done [] ys h = h
same_read f g same done (x ∷ xs) ys h =
    let one = bind_ok (f done x) _ _ h in
    rw (same done x one.0 one.1) (same_read f g same (done ++ one.0 ∷ []) xs ys one.2)

listed_only : (key : List ℕ) (done : List Container) (items : List Data) (all : List Container)
    → in_order_after container_of done items ≡ Ok all → listed_of key done items ≡ Ok all
listed_only key done items all h =
    rw (same_read container_of (container_at (length done)) (λ so_far item c is. rw is refl) done items all h)
    refl

containers_only : (lists : Lists) (all : List Container) (inits : ℕ)
    → Both IsContainer (lists.inits ++ lists.others) all → inits ≡ length lists.inits → AreApart all
    → containers_of lists ≡ Ok (record { all = all; inits = inits })
unfolding containers_of
containers_only lists all inits each count apart =
    let whole : in_order_after container_of [] (lists.inits ++ lists.others) ≡ Ok all =
    after_only container_of AreApart IsContainer container_only [] (lists.inits ++ lists.others) all apart
    each in
    let front = bind_ok (in_order_after container_of [] lists.inits) (λ more.
    in_order_after container_of more lists.others) all
    (sym (after_append container_of [] lists.inits lists.others) ∙ whole) in
    let grown = after_length container_of [] lists.inits front.0 front.1 in
    let as_many : length front.0 ≡ inits = omega (arith, grown, count) in
    rw (
      listed_only (codes "initContainers") [] lists.inits front.0 front.1,
      listed_only (codes "containers") front.0 lists.others all front.2,
    )
    (ap (λ n. Ok (record { all = all; inits = n })) as_many)

not_none : {A : Type 0} (xs : List A) → 0 < length xs → eqb (length xs) 0 ≡ false
not_none [] some = absurd (omega arith)
not_none (x ∷ xs) some = eqb-suc-zero (length xs)

lists_only : (spec : Data) (all : List Container) (inits : ℕ) (h : HasContainers spec all inits)
    → lists_of spec ≡ Ok (record { inits = unwrap_or h.given []; others = h.others })
unfolding lists_of inits_of others_of
lists_only spec all inits h =
    let both = both_length IsContainer (unwrap_or h.given [] ++ h.others) all h.each in
    let parts : length (unwrap_or h.given [] ++ h.others) ≡ length (unwrap_or h.given []) + length h.others =
    simp length-append refl in
    rw (
      optional_only list (codes "initContainers") spec h.given h.inits_there,
      required_only list (codes "containers") spec h.others h.others_there,
      not_none h.others (omega (arith, both, parts, h.fit.some, h.count)),
      le-ltb MAX_CONTAINERS (length (unwrap_or h.given []) + length h.others)
          (omega (arith, both, parts, h.fit.few)),
    ) refl

pod_only : (tree : Data) (pod : Pod) → IsPod tree pod → pod_of tree ≡ Ok pod
unfolding pod_of head_of kind_of named_of terms_of says
pod_only tree pod h =
    rw (
      h.an_object,
      required_only text (codes "apiVersion") tree (codes "v1") h.version,
      required_only text (codes "kind") tree (codes "Pod") h.kind,
      required_only object (codes "metadata") tree h.metadata h.metadata_there,
      identity_only h.metadata pod.namespace pod.name pod.uid h.identity,
      required_only object (codes "spec") tree h.spec h.spec_there,
      policy_only h.spec pod.policy h.policy,
      grace_only h.spec pod.grace h.grace,
      pod_profile_only h.spec pod.profile h.profile,
      lists_only h.spec pod.containers.all pod.containers.inits h.containers,
      containers_only (record { inits = unwrap_or h.containers.given []; others = h.containers.others })
          pod.containers.all pod.containers.inits h.containers.each h.containers.count h.containers.fit.apart,
    ) refl

-- a text's pod is read
pub only : (bytes : List ℕ) (pod : Pod) → ReadsPod bytes pod → reading_of bytes ≡ Ok pod
unfolding reading_of document
only bytes pod h = rw h.is (pod_only h.tree pod h.says)
