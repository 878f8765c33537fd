-- What is read is right: each reading that succeeds returns what the tree has.
use Rattle.std.proofs.Common.{◌≡◌, ℕ, List, not, codes, cond, Bool, true, false, Option, Some, None}
use Rattle.std.proofs.Common.{unwrap_or, Result, Ok, Err, refl, sym, ap, subst, ◌∙◌}
use Rattle.std.specs.Bool.{⊤}
use Rattle.std.specs.Str.{bytes_eq}
use Rattle.std.proofs.lemmas.Slice.Eq.{bytes_eq-Decides}
use Rattle.serde_json.specs.Data.{Data}
use Rattle.json_tree.specs.Tree.{object, text, whole}
use Rattle.json_tree.specs.Reading.{◌>>=◌, refuse_if, if_there, HasField, MayHaveField}
use Rattle.json_place.specs.Fields.{required, optional}
use Rattle.json_place.specs.Parts.{Part, Member}
use Rattle.json_tree.proofs.Loops.{bind_ok, then_ok}
use Rattle.json_tree.proofs.Fields.{refuse_if_ok, as_fault_ok}
use Rattle.json_place.proofs.PlacedFields.{required_found, optional_found}
use Rattle.lifecycle.specs.declared.policy.RestartPolicy.{RestartPolicy}
use Rattle.lifecycle.specs.declared.policy.RestartPolicy.TheVariants.{Always, OnFailure, Never}
use Rattle.manifest.specs.declared.faults.PodFault.TheVariants.{WrongType, BadName, BadProfile}
use Rattle.manifest.specs.declared.placed.PodFaultAt.{PodFaultAt}
use Rattle.manifest.specs.declared.profiles.SeccompProfile.{SeccompProfile}
use Rattle.manifest.specs.Faults.{fault_at, fault_within, under}
use Rattle.manifest.specs.declared.profiles.SeccompProfile.TheVariants.{RuntimeDefault, Localhost, Unconfined}
use Rattle.manifest.specs.Heads.{Identity, Terms, default_uid}
use Rattle.manifest.specs.Pod.{HasIdentity, IsPolicyOf, HasPolicy, HasGrace, IsWritten, IsProfile, SameWhere}
use Rattle.manifest.specs.Pod.{HasProfile, HasProfileWithin, HasPodProfile}
use Rattle.manifest.specs.Reading.{here, named_by, says, namespace_of, checked_uid, uid_of, identity_of}
use Rattle.manifest.specs.Reading.{policy_named, policy_there, policy_of, grace_of, without_path, with_path}
use Rattle.manifest.specs.Reading.{profile_named, profile_of, profile_in, profile_within, pod_profile_of}
use Rattle.manifest.specs.Reading.{terms_of}
use Rattle.manifest.specs.Texts.{is_descending, is_label, is_pod_name, is_uid}
use Rattle.manifest.proofs.Defaults.{default_fits}

pub needs : {A : Type 0} (kind : Data → Option A) (key : List ℕ) (tree : Data) (x : A)
    → here (required kind key tree) ≡ Ok x → HasField kind key tree x
needs kind key tree x h = required_found kind key tree x (as_fault_ok _ (required kind key tree) x h)

pub may : {A : Type 0} (kind : Data → Option A) (key : List ℕ) (tree : Data) (x : Option A)
    → here (optional kind key tree) ≡ Ok x → MayHaveField kind key tree x
may kind key tree x h = optional_found kind key tree x (as_fault_ok _ (optional kind key tree) x h)

pub passed : (b : Bool) → not b ≡ false → b ≡ true
passed true h = refl
passed false h = absurd cc

same_bytes : (name other : List ℕ) → bytes_eq name other ≡ true → name ≡ other
same_bytes name other h = (bytes_eq-Decides name other).0 h

-- the answer of a chain of tests is right if each answer is
one_of : {A E : Type 0} (P : A → Type 0) (test : Bool) (one others : Result A E)
    → (test ≡ true → (y : A) → one ≡ Ok y → P y) → ((y : A) → others ≡ Ok y → P y) → (y : A)
    → cond test one others ≡ Ok y → P y
one_of P true one others here rest y h = here refl y h
one_of P false one others here rest y h = rest y h

abbrev pub IsRead : {A E : Type 0} → Result A E → A → Type 0
IsRead r x = r ≡ Ok x

-- the reading of the value under a step
pub under_ok : {A : Type 0} (part : Part) (r : Result A PodFaultAt) (x : A) → under part r ≡ Ok x → r ≡ Ok x
under_ok part r x h = as_fault_ok (fault_within part) r x h

none_of : {A E : Type 0} (P : A → Type 0) (e : E) (y : A) → IsRead (Err e) y → P y
none_of P e y h = absurd cc

pub is_this : {A E : Type 0} (P : A → Type 0) (x y : A) → P x → IsRead {E = E} (Ok x) y → P y
is_this P x y p h =
    let same : x ≡ y = cc in
    subst P same p

pub named_found : (test : List ℕ → Bool) (key : List ℕ) (tree : Data) (name : List ℕ)
    → named_by test key tree ≡ Ok name → HasField text key tree name × (test name ≡ true)
unfolding named_by
named_found test key tree name h =
    let given = bind_ok (here (required text key tree)) _ _ h in
    let fits = then_ok (refuse_if (not (test given.0)) (fault_at key BadName)) _ _ given.2 in
    let is : given.0 ≡ name = cc in
    subst (λ n. HasField text key tree n × (test n ≡ true)) is (
      needs text key tree given.0 given.1,
      passed (test given.0) (refuse_if_ok _ _ fits.0 fits.1),
    )

pub says_found : (key want : List ℕ) (tree : Data) (u : ⊤) → says key want tree ≡ Ok u
    → HasField text key tree want
unfolding says
says_found key want tree u h =
    let given = bind_ok (here (required text key tree)) _ _ h in
    subst (HasField text key tree) (same_bytes given.0 want
    (passed (bytes_eq given.0 want) (refuse_if_ok _ _ u given.2))) (needs text key tree given.0 given.1)

abbrev IsNamespace : Data → List ℕ → Type 0
IsNamespace tree namespace = (given : Option (List ℕ)) × MayHaveField text (codes "namespace") tree given
    × (namespace ≡ unwrap_or given (codes "default")) × (is_label namespace ≡ true)

namespace_found : (tree : Data) (namespace : List ℕ) → namespace_of tree ≡ Ok namespace
    → IsNamespace tree namespace
unfolding namespace_of
namespace_found tree namespace h =
    let given = bind_ok (here (optional text (codes "namespace") tree)) _ _ h in
    let fits = then_ok (refuse_if (not (is_label (unwrap_or given.0 (codes "default"))))
    (fault_at (codes "namespace") BadName)) _ _ given.2 in
    is_this (IsNamespace tree) (unwrap_or given.0 (codes "default")) namespace (
      given.0,
      may text (codes "namespace") tree given.0 given.1,
      refl,
      passed _ (refuse_if_ok _ _ fits.0 fits.1),
    ) fits.2

abbrev FitsWhere : Option (List ℕ) → Type 0
FitsWhere None = Unit {0}
FitsWhere (Some uid) = is_uid uid ≡ true

checked_found : (given uid : Option (List ℕ)) → if_there checked_uid given ≡ Ok uid → (given ≡ uid)
    × FitsWhere given
unfolding checked_uid
checked_found None uid h = (cc, tt)
checked_found (Some word) uid h =
    let one = bind_ok (checked_uid word) _ _ h in
    let fits = then_ok (refuse_if (not (is_uid word)) (fault_at (codes "uid") BadName)) _ _ one.1 in
    let same : word ≡ one.0 = cc in
    (ap Some same ∙ cc, passed (is_uid word) (refuse_if_ok _ _ fits.0 fits.1))

uid_fits : (given : Option (List ℕ)) (namespace name : List ℕ) → FitsWhere given → is_label namespace ≡ true
    → is_pod_name name ≡ true → is_uid (unwrap_or given (default_uid namespace name)) ≡ true
uid_fits None namespace name fits a b = default_fits namespace name a b
uid_fits (Some uid) namespace name fits a b = fits

abbrev pub IsIdentity : Data → Identity → Type 0
IsIdentity tree i = HasIdentity tree i.namespace i.name i.uid

pub identity_found : (tree : Data) (i : Identity) → identity_of tree ≡ Ok i → IsIdentity tree i
unfolding identity_of uid_of
identity_found tree i h =
    let name = bind_ok (named_by is_pod_name (codes "name") tree) _ _ h in
    let namespace = bind_ok (namespace_of tree) _ _ name.2 in
    let uid = bind_ok (here (optional text (codes "uid") tree) >>= λ given. if_there checked_uid given) _ _
    namespace.2 in
    let given = bind_ok (here (optional text (codes "uid") tree)) _ _ uid.1 in
    let checked = checked_found given.0 uid.0 given.2 in
    let name_is = named_found is_pod_name (codes "name") tree name.0 name.1 in
    let namespace_is = namespace_found tree namespace.0 namespace.1 in
    is_this (IsIdentity tree) (record {
      namespace = namespace.0;
      name = name.0;
      uid =
          unwrap_or uid.0 (default_uid namespace.0 name.0);
    }) i (record {
      name_there = name_is.0;
      name_fits = name_is.1;
      given_namespace = namespace_is.0;
      namespace_there = namespace_is.1;
      namespace_is = namespace_is.2;
      namespace_fits = namespace_is.3;
      given_uid = given.0;
      uid_there = may text (codes "uid") tree given.0 given.1;
      uid_is = ap (λ u. unwrap_or u (default_uid namespace.0 name.0)) (sym checked.0);
      uid_fits = uid_fits uid.0 namespace.0 name.0 (subst FitsWhere checked.0 checked.1) namespace_is.3
          name_is.1;
    }) uid.2

policy_named_found : (name : List ℕ) (policy : RestartPolicy) → policy_named name ≡ Ok policy
    → IsPolicyOf policy (Some name)
unfolding policy_named
policy_named_found name policy h =
    let P : RestartPolicy → Type 0 = λ p. IsPolicyOf p (Some name) in
    one_of P (bytes_eq name (codes "Always")) _ _ (λ e y. is_this P Always y (same_bytes _ _ e))
    (one_of P (bytes_eq name (codes "OnFailure")) _ _
    (λ e y. is_this P OnFailure y (ap Some (same_bytes _ _ e)))
    (one_of P (bytes_eq name (codes "Never")) _ _ (λ e y. is_this P Never y (ap Some (same_bytes _ _ e)))
    (none_of P WrongType))) policy h

policy_there_found : (given : Option (List ℕ)) (policy : RestartPolicy) → policy_there given ≡ Ok policy
    → IsPolicyOf policy given
policy_there_found None policy h = is_this (λ (p : RestartPolicy). IsPolicyOf p None) Always policy refl h
policy_there_found (Some name) policy h =
    policy_named_found name policy (as_fault_ok (fault_at (codes "restartPolicy"))
    (policy_named name) policy h)

policy_found : (spec : Data) (policy : RestartPolicy) → policy_of spec ≡ Ok policy → HasPolicy spec policy
unfolding policy_of
policy_found spec policy h =
    let given = bind_ok (here (optional text (codes "restartPolicy") spec)) _ _ h in
    record {
      given = given.0;
      there = may text (codes "restartPolicy") spec given.0 given.1;
      is =
          policy_there_found given.0 policy given.2;
    }

grace_found : (spec : Data) (grace : ℕ) → grace_of spec ≡ Ok grace → HasGrace spec grace
unfolding grace_of
grace_found spec grace h =
    let given = bind_ok (here (optional whole (codes "terminationGracePeriodSeconds") spec)) _ _ h in
    record {
      given = given.0;
      there = may whole (codes "terminationGracePeriodSeconds") spec given.0 given.1;
      is = cc;
    }

without_found : (P : SeccompProfile → Type 0) (profile : SeccompProfile) (path : Option (List ℕ))
    → (path ≡ None → P profile) → (y : SeccompProfile) → without_path profile path ≡ Ok y → P y
without_found P profile None p y h = is_this P profile y (p refl) h
without_found P profile (Some path) p y h = absurd cc

with_found : (name : List ℕ) (path : Option (List ℕ)) → name ≡ codes "Localhost" → (y : SeccompProfile)
    → with_path path ≡ Ok y → IsWritten y name path
with_found name None is y h = absurd cc
with_found name (Some path) is y h =
    let P : SeccompProfile → Type 0 = λ p. IsWritten p name (Some path) in
    one_of P (is_descending path) (Ok (Localhost path)) (Err (fault_at (codes "localhostProfile") BadProfile))
    (λ fits z. is_this P (Localhost path) z (is, refl, fits))
    (none_of P (fault_at (codes "localhostProfile") BadProfile)) y h

written_found : (name : List ℕ) (path : Option (List ℕ)) (profile : SeccompProfile)
    → profile_named name path ≡ Ok profile → IsWritten profile name path
unfolding profile_named
written_found name path profile h =
    let P : SeccompProfile → Type 0 = λ p. IsWritten p name path in
    one_of P (bytes_eq name (codes "RuntimeDefault")) _ _
    (λ e. without_found P RuntimeDefault path (λ none. (same_bytes _ _ e, none)))
    (one_of P (bytes_eq name (codes "Localhost")) _ _ (λ e. with_found name path (same_bytes _ _ e))
    (one_of P (bytes_eq name (codes "Unconfined")) _ _
    (λ e. without_found P Unconfined path (λ none. (same_bytes _ _ e, none)))
    (none_of P (fault_at (codes "type") BadProfile)))) profile h

profile_found : (tree : Data) (profile : SeccompProfile) → profile_of tree ≡ Ok profile
    → IsProfile tree profile
unfolding profile_of
profile_found tree profile h =
    let name = bind_ok (here (required text (codes "type") tree)) _ _ h in
    let path = bind_ok (here (optional text (codes "localhostProfile") tree)) _ _ name.2 in
    record {
      name = name.0;
      there = needs text (codes "type") tree name.0 name.1;
      path = path.0;
      path_there = may text (codes "localhostProfile") tree path.0 path.1;
      written = written_found name.0 path.0 profile path.2;
    }

profile_where : (found : Option Data) (profile : Option SeccompProfile)
    → if_there profile_of found ≡ Ok profile → SameWhere IsProfile found profile
profile_where None profile h = is_this (SameWhere IsProfile None) None profile tt h
profile_where (Some tree) profile h =
    let one = bind_ok (profile_of tree) _ _ h in
    is_this (SameWhere IsProfile (Some tree)) (Some one.0) profile (profile_found tree one.0 one.1) one.2

pub profile_in_found : (context : Data) (profile : Option SeccompProfile) → profile_in context ≡ Ok profile
    → HasProfile context profile
unfolding profile_in
profile_in_found context profile h =
    let found = bind_ok (here (optional object (codes "seccompProfile") context)) _ _ h in
    record {
      found = found.0;
      there = may object (codes "seccompProfile") context found.0 found.1;
      is =
          profile_where found.0 profile (under_ok (Member (codes "seccompProfile"))
          (if_there profile_of found.0) profile found.2);
    }

within_found : (context : Option Data) (profile : Option SeccompProfile) → profile_within context ≡ Ok profile
    → HasProfileWithin context profile
within_found None profile h = cc
within_found (Some context) profile h = profile_in_found context profile h

pod_profile_found : (spec : Data) (profile : Option SeccompProfile) → pod_profile_of spec ≡ Ok profile
    → HasPodProfile spec profile
unfolding pod_profile_of
pod_profile_found spec profile h =
    let context = bind_ok (here (optional object (codes "securityContext") spec)) _ _ h in
    record {
      context = context.0;
      there = may object (codes "securityContext") spec context.0 context.1;
      is =
          within_found context.0 profile (under_ok (Member (codes "securityContext"))
          (profile_within context.0) profile context.2);
    }

abbrev pub HasTerms : Data → Terms → Type 0
HasTerms spec terms = HasPolicy spec terms.policy × HasGrace spec terms.grace
    × HasPodProfile spec terms.profile

pub terms_found : (spec : Data) (terms : Terms) → terms_of spec ≡ Ok terms → HasTerms spec terms
unfolding terms_of
terms_found spec terms h =
    let policy = bind_ok (policy_of spec) _ _ h in
    let grace = bind_ok (grace_of spec) _ _ policy.2 in
    let profile = bind_ok (pod_profile_of spec) _ _ grace.2 in
    is_this (HasTerms spec) (record { policy = policy.0; grace = grace.0; profile = profile.0 }) terms (
      policy_found spec policy.0 policy.1,
      grace_found spec grace.0 grace.1,
      pod_profile_found spec profile.0 profile.1,
    ) profile.2
