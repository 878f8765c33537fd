-- What is known of one uid changes.
use Rattle.std.proofs.Common.{◌≡◌, ℕ, List, Some, None, IsSome, option_map, String, refl, sym, ap, ◌∙◌, subst}
use Rattle.std.specs.BTreeMap as tree
use Rattle.std.specs.BTreeMap.{BTreeMap, get_by_text}
use Rattle.std.specs.String.{string_cmp}
use Rattle.std.proofs.lemmas.Map.Text.{text_cmp}
use Rattle.registry.specs.declared.known.Known.{Known}
use Rattle.registry.specs.Kept.{Changes, by_bytes, known_in}
use Rattle.registry.proofs.Texts.{elsewhere, found, here}

pub changes_none : {Y : Type 0} (uid : List ℕ) (old new : BTreeMap (String Y) Known) (f : Known → Known)
    → new ≡ old → get_by_text old uid ≡ None
    → Changes (by_bytes old.entries) (by_bytes new.entries) uid f
changes_none uid old new f same none =
    let nothing = found uid old.entries ∙ none in
    record {
      here = ap (λ m. known_in (by_bytes m.entries) uid) same ∙ nothing ∙ sym (ap (option_map f) nothing);
      others = λ u differ. ap (λ m. known_in (by_bytes m.entries) u) same;
    }

pub changes_some : {Y : Type 0} (uid : List ℕ) (old new : BTreeMap (String Y) Known) (k later : Known)
    (f : Known → Known) → get_by_text old uid ≡ Some k → later ≡ f k
    → tree.WritesThrough string_cmp (text_cmp uid) old later new
    → Changes (by_bytes old.entries) (by_bytes new.entries) uid f
changes_some uid old new k later f is comes writes =
    let changes = writes.3 (subst IsSome (sym is) refl) in
    record {
      here = here uid old new (Some later) changes ∙ ap Some comes
          ∙ sym (ap (option_map f) (found uid old.entries ∙ is));
      others = elsewhere uid old new (Some later) changes;
    }
