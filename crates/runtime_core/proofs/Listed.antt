-- The list of one uid is read, changed or removed.
use Rattle.std.proofs.Common.{◌≡◌, ◌≢◌, ℕ, List, [], Some, None, IsSome, String, unwrap_or, is_some, refl}
use Rattle.std.proofs.Common.{sym, ap, ◌∙◌, subst}
use Rattle.std.specs.BTreeMap as tree
use Rattle.std.specs.BTreeMap.{BTreeMap, get_by_text}
use Rattle.std.specs.String.{string_cmp}
use Rattle.std.proofs.lemmas.Map.Text.{text_cmp}
use Rattle.runtime_cell.specs.Cell.{Cell}
use Rattle.registry.specs.Kept.{by_bytes}
use Rattle.runtime_core.specs.Stands.{cells_in, list_in}
use Rattle.registry.proofs.Texts.{elsewhere, found, here}

-- a list existed and became another one
pub record Becomes (old new : List (List ℕ × List Cell)) (uid : List ℕ)
    (cells later : List Cell) : Type 0 where
  pub was : list_in old uid ≡ Some cells
  pub is : list_in new uid ≡ Some later
  pub others : (u : List ℕ) → u ≢ uid → list_in new u ≡ list_in old u

pub becomes : {Y : Type 0} (uid : List ℕ) (old new : BTreeMap (String Y) (List Cell))
    (cells later : List Cell) → get_by_text old uid ≡ Some cells
    → tree.WritesThrough string_cmp (text_cmp uid) old later new
    → Becomes (by_bytes old.entries) (by_bytes new.entries) uid cells later
becomes uid old new cells later there writes =
    let changes = writes.3 (subst IsSome (sym there) refl) in
    record {
      was = found uid old.entries ∙ there;
      is = here uid old new (Some later) changes;
      others = elsewhere uid old new (Some later) changes;
    }

pub lies : (P : List Cell → List Cell → Type 0) (old new : List (List ℕ × List Cell)) (uid : List ℕ)
    (cells later : List Cell) → Becomes old new uid cells later → P cells later
    → P (cells_in old uid) (cells_in new uid)
lies P old new uid cells later b p = subst (λ l. P (unwrap_or l []) (cells_in new uid)) (sym b.was)
    (subst (λ l. P cells (unwrap_or l [])) (sym b.is) p)

pub still_listed : (old new : List (List ℕ × List Cell)) (uid : List ℕ) (cells later : List Cell)
    → Becomes old new uid cells later → is_some (list_in new uid) ≡ is_some (list_in old uid)
still_listed old new uid cells later b = ap is_some b.is ∙ sym (ap is_some b.was)

pub no_list : {Y : Type 0} (uid : List ℕ) (map : BTreeMap (String Y) (List Cell)) → get_by_text map uid ≡ None
    → list_in (by_bytes map.entries) uid ≡ None
no_list uid map none = found uid map.entries ∙ none

pub no_cells : (lists : List (List ℕ × List Cell)) (uid : List ℕ) → list_in lists uid ≡ None
    → cells_in lists uid ≡ []
no_cells lists uid none = ap (λ l. unwrap_or l []) none
