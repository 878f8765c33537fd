-- A map by texts, as the list of its entries.
use Rattle.std.proofs.Common.{◌≡◌, ◌≢◌, ◌⊎◌, inl, inr, ℕ, Bool, true, false, List, [], ◌∷◌, Option, Some}
use Rattle.std.proofs.Common.{String, string_bytes, refl, sym, ap, ◌∙◌}
use mathlib.Core.Bool.{cond}
use Rattle.std.specs.BTreeMap as tree
use Rattle.std.specs.BTreeMap.{BTreeMap, is_at}
use Rattle.std.specs.Cmp.Lexicographic.{slice_cmp}
use Rattle.std.specs.Map.{lookup}
use Rattle.std.specs.Ordering.{is_eq, nat_cmp}
use Rattle.std.specs.Str.{bytes_eq}
use Rattle.std.specs.String.{string_cmp}
use Rattle.std.proofs.lemmas.Map.Text.{btree_map_updates_text, is_eq-slice_cmp, text_cmp}
use Rattle.std.proofs.lemmas.Bool.{false_from_ne_true}
use Rattle.std.proofs.lemmas.Slice.Eq.{bytes_eq-Decides}
use Rattle.registry.specs.Kept.{by_bytes}

found_step : {X : Type 0} (b d : Bool) (x : X) (r s : Option X) → b ≡ d → r ≡ s
    → cond b (Some x) r ≡ cond d (Some x) s
found_step true true x r s e same = refl
found_step false false x r s e same = same
found_step true false x r s e same = absurd cc
found_step false true x r s e same = absurd cc

pub found : {Y X : Type 0} (uid : List ℕ) (entries : List (String Y × X))
    → lookup (bytes_eq uid) (by_bytes entries) ≡ lookup (is_at (text_cmp uid)) entries
found uid [] = refl
found uid (e ∷ entries) = found_step (bytes_eq uid (string_bytes e.0))
    (is_eq (slice_cmp nat_cmp uid (string_bytes e.0))) e.1 _ _
    (sym (is_eq-slice_cmp uid (string_bytes e.0))) (found uid entries)

pub same_text : (uid : List ℕ) → bytes_eq uid uid ≡ true
same_text uid = (bytes_eq-Decides uid uid).1 refl

pub other_text : (uid u : List ℕ) → u ≢ uid → bytes_eq uid u ≡ false
other_text uid u differ = false_from_ne_true (bytes_eq uid u)
    (λ same. differ (sym ((bytes_eq-Decides uid u).0 same)))

module _ {Y X : Type 0} (uid : List ℕ) (old new : BTreeMap (String Y) X) (w : Option X)
    (changes : tree.UpdatesBy string_cmp (text_cmp uid) old new w) where
  after : (u : List ℕ) → lookup (bytes_eq u) (by_bytes new.entries)
      ≡ cond (bytes_eq uid u) w (lookup (bytes_eq u) (by_bytes old.entries))
  after u = found u new.entries ∙ btree_map_updates_text uid old new w changes u
      ∙ ap (cond (bytes_eq uid u) w) (sym (found u old.entries))

  pub here : lookup (bytes_eq uid) (by_bytes new.entries) ≡ w
  here = after uid ∙ ap (λ b. cond b w (lookup (bytes_eq uid) (by_bytes old.entries))) (same_text uid)

  pub elsewhere : (u : List ℕ) → u ≢ uid → lookup (bytes_eq u) (by_bytes new.entries)
      ≡ lookup (bytes_eq u) (by_bytes old.entries)
  elsewhere u differ = after u ∙ ap (λ b. cond b w (lookup (bytes_eq u) (by_bytes old.entries)))
      (other_text uid u differ)

same_or_not : (b : Bool) (u v : List ℕ) → bytes_eq u v ≡ b → (u ≡ v) ⊎ (u ≢ v)
same_or_not true u v is = inl ((bytes_eq-Decides u v).0 is)
same_or_not false u v is = inr (λ same. differ (sym ((bytes_eq-Decides u v).1 same) ∙ is))
  where
    differ : true ≡ false → ⊥
    differ e = cc

pub text_cases : (u v : List ℕ) → (u ≡ v) ⊎ (u ≢ v)
text_cases u v = same_or_not (bytes_eq u v) u v refl
