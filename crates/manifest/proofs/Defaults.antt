-- The default uid of a pod is a uid.
use Rattle.std.proofs.Common.{◌≡◌, ℕ, ◌+◌, ◌≤◌, List, [], ◌∷◌, ◌++◌, length, codes, ◌&&◌, Bool, true, false}
use Rattle.std.proofs.Common.{length-append, leb, refl, ap, ◌∙◌, arith}
use Rattle.std.specs.Prelude.{IsTrue}
use Rattle.std.specs.List.{list_all}
use Rattle.std.proofs.lemmas.Bool.{leb-true, le-leb}
use Rattle.std.proofs.lemmas.List.Folds.{list_all-append}
use Rattle.manifest.specs.Heads.{default_uid}
use Rattle.manifest.specs.Texts.{is_label, is_label_byte, is_pod_byte, is_pod_name, is_uid, is_uid_byte}
use Rattle.manifest.specs.Texts.{has_length_to, has_plain_ends}

both : (a b : Bool) → (a && b) ≡ true → (a ≡ true) × (b ≡ true)
both true b h = (refl, h)
both false b h = absurd cc

and_all : {X : Type 0} (p q : X → Bool) → ((x : X) → p x ≡ true → q x ≡ true) → (xs : List X)
    → list_all p xs ≡ true → list_all q xs ≡ true
and_all p q h [] all = refl
and_all p q h (x ∷ xs) all =
    let parts = both (p x) (list_all p xs) all in
    rw (h x parts.0, and_all p q h xs parts.1) refl

pod_byte : (byte : ℕ) → is_pod_byte byte ≡ true → is_uid_byte byte ≡ true
pod_byte byte h = rw h refl

label_byte : (byte : ℕ) → is_label_byte byte ≡ true → is_uid_byte byte ≡ true
label_byte byte h = rw h refl

pub default_fits : (namespace name : List ℕ) → IsTrue (is_label namespace) → IsTrue (is_pod_name name)
    → IsTrue (is_uid (default_uid namespace name))
unfolding is_label is_pod_name is_uid
default_fits namespace name a b =
    let a_parts = both (has_length_to 63 namespace && list_all is_label_byte namespace)
    (has_plain_ends namespace) a in
    let a_fronts = both (has_length_to 63 namespace) (list_all is_label_byte namespace) a_parts.0 in
    let a_bounds = both (leb 1 (length namespace)) (leb (length namespace) 63) a_fronts.0 in
    let b_parts = both (has_length_to 253 name && list_all is_pod_byte name) (has_plain_ends name) b in
    let b_fronts = both (has_length_to 253 name) (list_all is_pod_byte name) b_parts.0 in
    let b_bounds = both (leb 1 (length name)) (leb (length name) 253) b_fronts.0 in
    let a_short : length namespace ≤ 63 = leb-true (length namespace) 63 a_bounds.1 in
    let b_short : length name ≤ 253 = leb-true (length name) 253 b_bounds.1 in
    let whole : length (default_uid namespace name) ≡ length namespace + 1 + length name =
    simp length-append refl in
    let long : leb 1 (length (default_uid namespace name)) ≡ true =
    le-leb 1 (length (default_uid namespace name)) (omega (arith, whole)) in
    let short : leb (length (default_uid namespace name)) 317 ≡ true =
    le-leb (length (default_uid namespace name)) 317 (omega (arith, whole, a_short, b_short)) in
    let front : list_all is_uid_byte namespace ≡ true =
    and_all is_label_byte is_uid_byte label_byte namespace a_fronts.1 in
    let back : list_all is_uid_byte name ≡ true = and_all is_pod_byte is_uid_byte pod_byte name b_fronts.1 in
    let bytes : list_all is_uid_byte (default_uid namespace name) ≡ true =
    list_all-append is_uid_byte (namespace ++ codes ".") name
    ∙ ap (λ t. t && list_all is_uid_byte name) (list_all-append is_uid_byte namespace (codes ".")
    ∙ ap (λ t. t && true) front) ∙ back in
    rw (long, short, bytes) refl
