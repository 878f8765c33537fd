-- Registry and lists still agree.
use Rattle.std.proofs.Common.{◌≡◌, ◌≢◌, ◌↔◌, ◌⊎◌, inl, inr, ℕ, ◌==◌, ◌≤◌, Bool, true, false, List, [], ◌∷◌}
use Rattle.std.proofs.Common.{◌||◌, option_map, map, Option, Some, None, refl, sym, ap, ◌∙◌, subst}
use mathlib.Core.Bool.{cond}
use Rattle.std.specs.List.{list_any}
use Rattle.std.proofs.lemmas.Bool.{eq-eqb, eqb-true, false_from_ne_true}
use Rattle.runtime_cell.specs.Cell.{Cell}
use Rattle.registry.specs.declared.registry.Registry.{Registry}
use Rattle.registry.specs.declared.known.Known.{Known}
use Rattle.registry.specs.declared.known.Known.TheVariants as known
use Rattle.registry.specs.declared.stage.Stage.TheVariants as stage
use Rattle.registry.specs.Kept.{dead, home_in, stage_of, stopped}
use Rattle.registry.specs.Runtime.{In, id_of}
use Rattle.registry.specs.Stands.{Agrees, AreBound, IsEmptyIn, Keeps, RiseAbove, stages_in}

-- the ids stay as they were, and the registry's too
pub keeps_ids : (old new : Registry) (uid : List ℕ) (before behind : List Cell) → new.homes ≡ old.homes
    → new.made ≡ old.made → map id_of behind ≡ map id_of before
    → (IsEmptyIn (stages_in old uid) before → IsEmptyIn (stages_in new uid) behind)
    → Keeps old new uid before behind
keeps_ids old new uid before behind homes made ids empty = record {
  bound = λ bound id u at. subst (λ n. id ≤ n) (sym made)
      (bound id u (subst (λ hs. home_in hs id ≡ Some u) homes at));
  agrees = λ bound agrees. record {
    home = λ id. subst (λ hs. (home_in hs id ≡ Some uid) ↔ In id (map id_of behind)) (sym homes)
        (subst (λ is. (home_in old.homes id ≡ Some uid) ↔ In id is) (sym ids) (agrees.home id));
    rise = subst (RiseAbove 0) (sym ids) agrees.rise;
    empty = empty agrees.empty;
  };
}

pub stopped_any : (k : Option Known) (ready : Bool) (cells : List Cell) → stage_of k ≡ stage.Live ready
    → IsEmptyIn (stage_of (option_map stopped k)) cells
stopped_any None ready cells is = absurd cc
stopped_any (Some (known.Live live)) ready cells is = tt
stopped_any (Some known.Removed) ready cells is = absurd cc

pub removed_none : (k : Option Known) (ready : Bool) → stage_of k ≡ stage.Live ready
    → IsEmptyIn (stage_of (option_map dead k)) []
removed_none None ready is = absurd cc
removed_none (Some k) ready is = refl

any_step : (b : Bool) (id : ℕ) (cells : List Cell)
    → (b ≡ true) ⊎ (list_any (λ cell. id_of cell == id) cells ≡ true)
    → (b || list_any (λ cell. id_of cell == id) cells) ≡ true
any_step true id cells is = refl
any_step false id cells (inl is) = absurd cc
any_step false id cells (inr is) = is

pub any_in : (id : ℕ) (cells : List Cell) → In id (map id_of cells)
    → list_any (λ cell. id_of cell == id) cells ≡ true
any_in id [] among = elim among [ ]
any_in id (cell ∷ cells) (inl same) = any_step (id_of cell == id) id cells
    (inl (eq-eqb (id_of cell) id (sym same)))
any_in id (cell ∷ cells) (inr among) = any_step (id_of cell == id) id cells (inr (any_in id cells among))

in_step : (b : Bool) (id : ℕ) (cell : Cell) (cells : List Cell) → (id_of cell == id) ≡ b
    → (list_any (λ c. id_of c == id) cells ≡ true → In id (map id_of cells))
    → (b || list_any (λ c. id_of c == id) cells) ≡ true → In id (map id_of (cell ∷ cells))
in_step true id cell cells is rest any = inl (sym (eqb-true (id_of cell) id is))
in_step false id cell cells is rest any = inr (rest any)

pub in_any : (id : ℕ) (cells : List Cell) → list_any (λ cell. id_of cell == id) cells ≡ true
    → In id (map id_of cells)
in_any id [] any = absurd cc
in_any id (cell ∷ cells) any = in_step (id_of cell == id) id cell cells refl (in_any id cells) any

left_of : (b : Bool) (h : Option (List ℕ)) (u : List ℕ) → cond b None h ≡ Some u → (b ≡ false) × (h ≡ Some u)
left_of true h u is = absurd cc
left_of false h u is = (refl, is)

-- the ids of a list are removed
module _ (old new : Registry) (uid : List ℕ) (cells : List Cell) (made : new.made ≡ old.made)
    (forgets : (i : ℕ) → home_in new.homes i ≡ cond (list_any (λ cell. id_of cell == i) cells) None
    (home_in old.homes i)) where
  was : (id : ℕ) (u : List ℕ) → home_in new.homes id ≡ Some u
      → (list_any (λ cell. id_of cell == id) cells ≡ false) × (home_in old.homes id ≡ Some u)
  was id u at = left_of (list_any (λ cell. id_of cell == id) cells) (home_in old.homes id) u (sym (forgets id)
      ∙ at)

  pub keeps_none : IsEmptyIn (stages_in new uid) [] → Keeps old new uid cells []
  keeps_none empty = record {
    bound = λ bound id u at. subst (λ n. id ≤ n) (sym made) (bound id u (was id u at).1);
    agrees = λ bound agrees. record {
      home = λ id. (
        (λ at. differ (any_in id cells ((agrees.home id).0 (was id uid at).1)) (was id uid at).0),
        λ none. elim none [ ],
      );
      rise = tt;
      empty = empty;
    };
  } where
    differ : {b : Bool} → b ≡ true → b ≡ false → ⊥
    differ one other = cc

  pub spares_others : AreBound old → Agrees old uid cells → (u : List ℕ) → u ≢ uid → (id : ℕ)
      → (home_in new.homes id ≡ Some u) ↔ (home_in old.homes id ≡ Some u)
  spares_others bound agrees u other id = (
    (λ at. (was id u at).1),
    λ at. forgets id ∙ ap (λ b. cond b None (home_in old.homes id))
        (false_from_ne_true (list_any (λ cell. id_of cell == id) cells)
        (λ any. other (same (sym at ∙ (agrees.home id).1 (in_any id cells any))))) ∙ at,
  )
    where
      same : {a b : List ℕ} → Some a ≡ Some b → a ≡ b
      same e = cc
