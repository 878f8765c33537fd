-- Values that are found under their own labels.
use Rattle.std.proofs.Common.{◌≡◌, ◌≢◌, ℕ, inl, inr, Bool, true, false, ◌||◌, List, [], ◌∷◌, Option}
use Rattle.std.proofs.Common.{Some, None}
use Rattle.std.proofs.Common.{IfSome, Bor, String, string_bytes, is_some, refl, sym, ap, ◌∙◌}
use mathlib.Core.Bool.{cond}
use Rattle.std.specs.Prelude.{option_copied}
use Rattle.std.specs.BTreeMap as tree
use Rattle.std.specs.BTreeMap.{BTreeMap, is_at}
use Rattle.std.specs.Map.{lookup}
use Rattle.std.specs.Str.{bytes_eq}
use Rattle.std.specs.String.{string_cmp}
use Rattle.std.proofs.lemmas.Map.Text.{text_cmp}
use Rattle.registry.specs.Kept.{by_bytes}
use Rattle.registry.proofs.Texts.{elsewhere, found, here, text_cases}
use Rattle.runner.specs.Labelled.{AreLabelled, uids_in}
use Rattle.runner.specs.Shared.{has}

pub found_lent : {X : Type 0} (r : Option (Bor X)) (o : Option X) (P : X → Type 0) → option_copied r ≡ o
    → ((x : X) → o ≡ Some x → P x) → IfSome r (λ b. P b.now)
found_lent None o P is each = tt
found_lent (Some b) o P is each = each b.now (sym is)

pub found_taken : {X : Type 0} (r o : Option X) (P : X → Type 0) → r ≡ o → ((x : X) → o ≡ Some x → P x)
    → IfSome r P
found_taken None o P is each = tt
found_taken (Some x) o P is each = each x (sym is)

-- a value is added or removed under its label
module _ {Y X : Type 0} (label : X → List ℕ) (uid : List ℕ) (old new : BTreeMap (String Y) X) where
  at_label : (w : Option X) → ((x : X) → w ≡ Some x → label x ≡ uid)
      → lookup (bytes_eq uid) (by_bytes new.entries) ≡ w → (text : List ℕ) (x : X)
      → text ≡ uid → lookup (bytes_eq text) (by_bytes new.entries) ≡ Some x → label x ≡ text
  at_label w own there text x same is =
      own x (sym there ∙ ap (λ (t : List ℕ). lookup (bytes_eq t) (by_bytes new.entries)) (sym same) ∙ is)
      ∙ sym same

  pub still_labelled : (w : Option X) → tree.UpdatesBy string_cmp (text_cmp uid) old new w
      → ((x : X) → w ≡ Some x → label x ≡ uid) → AreLabelled label (by_bytes old.entries)
      → AreLabelled label (by_bytes new.entries)
  still_labelled w changes own labelled text x is = elim (text_cases text uid) [
    | inl same ↦ at_label w own (here uid old new w changes) text x same is
    | inr differ ↦ labelled text x (sym (elsewhere uid old new w changes text differ) ∙ is)
  ]

pub same_some : {X : Type 0} (x y : X) → Some x ≡ Some y → x ≡ y
same_some x y is = cc

any_step : {X : Type 0} (b : Bool) (x : X) (r : Bool) (o : Option X) → r ≡ is_some o
    → (b || r) ≡ is_some (cond b (Some x) o)
any_step true x r o same = refl
any_step false x r o same = same

pub has_found : {Y X : Type 0} (uid : List ℕ) (entries : List (String Y × X))
    → has (uids_in entries) uid ≡ is_some (lookup (bytes_eq uid) (by_bytes entries))
has_found uid [] = refl
has_found uid (e ∷ entries) = any_step (bytes_eq uid (string_bytes e.0)) e.1 _ _ (has_found uid entries)

some_copied : {X : Type 0} (r : Option (Bor X)) → is_some r ≡ is_some (option_copied r)
some_copied None = refl
some_copied (Some b) = refl

-- a value is found where its uid is kept
pub has_value : {Y X : Type 0} (uid : List ℕ) (entries : List (String Y × X)) (o : Option X)
    → o ≡ lookup (is_at (text_cmp uid)) entries → is_some o ≡ has (uids_in entries) uid
has_value uid entries o is = ap is_some (is ∙ sym (found uid entries)) ∙ sym (has_found uid entries)

pub has_lent : {Y X : Type 0} (uid : List ℕ) (entries : List (String Y × X)) (r : Option (Bor X))
    → option_copied r ≡ lookup (is_at (text_cmp uid)) entries → is_some r ≡ has (uids_in entries) uid
has_lent uid entries r is = some_copied r ∙ has_value uid entries (option_copied r) is

-- what is kept after a value was added or removed
module _ {Y X : Type 0} (uid : List ℕ) (old new : BTreeMap (String Y) X) (w : Option X)
    (changes : tree.UpdatesBy string_cmp (text_cmp uid) old new w) where
  pub has_here : has (uids_in new.entries) uid ≡ is_some w
  has_here = has_found uid new.entries ∙ ap is_some (here uid old new w changes)

  pub has_elsewhere : (u : List ℕ) → u ≢ uid → has (uids_in new.entries) u ≡ has (uids_in old.entries) u
  has_elsewhere u differ = has_found u new.entries ∙ ap is_some (elsewhere uid old new w changes u differ)
      ∙ sym (has_found u old.entries)
