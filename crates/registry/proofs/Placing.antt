-- A cell is added, or is not.
use Rattle.std.proofs.Common.{◌≡◌, ◌≢◌, ◌↔◌, ◌⊎◌, inl, inr, ℕ, ◌==◌, ◌<◌, ◌≤◌, Bool, true, false, List, []}
use Rattle.std.proofs.Common.{◌∷◌, ◌++◌, map, option_map, Option, Some, None, refl, sym, ap, ◌∙◌, subst}
use Rattle.std.proofs.Common.{arith}
use mathlib.Core.Bool.{cond}
use Rattle.std.specs.Str.{bytes_eq}
use Rattle.std.proofs.lemmas.Bool.{eq-eqb, eqb-true, false_from_ne_true}
use Rattle.std.proofs.lemmas.Slice.Eq.{bytes_eq-Decides}
use Rattle.cri_msgs.specs.declared.keys.ContainerMetadata.{ContainerMetadata}
use Rattle.runtime_cell.specs.Cell.{Cell}
use Rattle.registry.specs.declared.known.Known.{Known}
use Rattle.registry.specs.declared.known.Known.TheVariants as known
use Rattle.registry.specs.declared.registry.Registry.{Registry}
use Rattle.registry.specs.declared.stage.Stage.TheVariants as stage
use Rattle.registry.specs.Kept.{Changes, home_in, known_in, stage_of, with_used}
use Rattle.registry.specs.Runtime.{In, id_of}
use Rattle.registry.specs.Stands.{Agrees, AreBound, IsEmptyIn, IsPlaced, IsUnplaced, Keeps, RiseAbove, Spares}
use Rattle.registry.specs.Stands.{stages_in}

same_known : (k : Option Known) → option_map (λ n. n) k ≡ k
same_known None = refl
same_known (Some k) = refl

nothing_step : (b : Bool) (old new : List (List ℕ × Known)) (uid u : List ℕ) → bytes_eq uid u ≡ b
    → Changes old new uid (λ k. k) → known_in new u ≡ known_in old u
nothing_step true old new uid u is changes =
    let same : uid ≡ u = (bytes_eq-Decides uid u).0 is in
    subst (λ v. known_in new v ≡ known_in old v) same (changes.here ∙ same_known (known_in old uid))
nothing_step false old new uid u is changes =
    changes.others u (λ same. differ (sym ((bytes_eq-Decides uid u).1 (sym same)) ∙ is))
  where
    differ : true ≡ false → ⊥
    differ e = cc

pub nothing_changes : (old new : List (List ℕ × Known)) (uid : List ℕ) → Changes old new uid (λ k. k)
    → (u : List ℕ) → known_in new u ≡ known_in old u
nothing_changes old new uid changes u = nothing_step (bytes_eq uid u) old new uid u refl changes

nowhere : (h : Option (List ℕ)) (id made : ℕ) → made < id → ((uid : List ℕ) → h ≡ Some uid → id ≤ made)
    → h ≡ None
nowhere None id made more bound = refl
nowhere (Some uid) id made more bound =
    let no_more : id ≤ made = bound uid refl in
    absurd (omega arith)

undone_step : (b : Bool) (id i : ℕ) (uid : List ℕ) (f : ℕ → Option (List ℕ)) → (id == i) ≡ b → f id ≡ None
    → cond b None (cond b (Some uid) (f i)) ≡ f i
undone_step true id i uid f is none = sym none ∙ ap f (eqb-true id i is)
undone_step false id i uid f is none = refl

pub undone : (old : Registry) (id i : ℕ) (uid : List ℕ) → AreBound old → old.made < id
    → cond (id == i) None (cond (id == i) (Some uid) (home_in old.homes i)) ≡ home_in old.homes i
undone old id i uid bound more = undone_step (id == i) id i uid (home_in old.homes) refl
    (nowhere (home_in old.homes id) id old.made more (λ u at. bound id u at))

here_or : (b : Bool) (uid u : List ℕ) (h : Option (List ℕ)) → cond b (Some uid) h ≡ Some u
    → ((b ≡ true) × (uid ≡ u)) ⊎ ((b ≡ false) × (h ≡ Some u))
here_or true uid u h is = inl (refl, cc)
here_or false uid u h is = inr (refl, is)

in_more : (ids : List ℕ) (x id : ℕ) → In x ids → In x (ids ++ id ∷ [])
in_more [] x id among = elim among [ ]
in_more (first ∷ ids) x id (inl same) = inl same
in_more (first ∷ ids) x id (inr among) = inr (in_more ids x id among)

in_last : (ids : List ℕ) (id : ℕ) → In id (ids ++ id ∷ [])
in_last [] id = inl refl
in_last (first ∷ ids) id = inr (in_last ids id)

in_either : (ids : List ℕ) (x id : ℕ) → In x (ids ++ id ∷ []) → In x ids ⊎ (x ≡ id)
in_either [] x id (inl same) = inr same
in_either [] x id (inr none) = elim none [ ]
in_either (first ∷ ids) x id (inl same) = inl (inl same)
in_either (first ∷ ids) x id (inr among) =
    elim (in_either ids x id among) [ inl more ↦ inl (inr more) | inr same ↦ inr same ]

rise_more : (low id : ℕ) (ids : List ℕ) → RiseAbove low ids → low < id → ((x : ℕ) → In x ids → x < id)
    → RiseAbove low (ids ++ id ∷ [])
rise_more low id [] rise more below = (more, tt)
rise_more low id (first ∷ ids) rise more below =
    (rise.0, rise_more first id ids rise.1 (below first (inl refl)) (λ x among. below x (inr among)))

ids_more : (cells : List Cell) (cell : Cell) → map id_of (cells ++ cell ∷ []) ≡ map id_of cells ++ id_of cell
    ∷ []
ids_more [] cell = refl
ids_more (first ∷ cells) cell = ap (λ ids. id_of first ∷ ids) (ids_more cells cell)

live_any : (k : Option Known) (container : ContainerMetadata) (ready : Bool) (cells : List Cell)
    → stage_of k ≡ stage.Live ready → IsEmptyIn (stage_of (option_map (with_used container) k)) cells
live_any None container ready cells is = absurd cc
live_any (Some (known.Live live)) container ready cells is = tt
live_any (Some known.Removed) container ready cells is = absurd cc

module _ (old new : Registry) (uid : List ℕ) (container : ContainerMetadata) (id : ℕ)
    (placed : IsPlaced old new uid container id) (more : old.made < id) where
  hit : (i : ℕ) (u : List ℕ) → home_in new.homes i ≡ Some u
      → (((id == i) ≡ true) × (uid ≡ u)) ⊎ (((id == i) ≡ false) × (home_in old.homes i ≡ Some u))
  hit i u at = here_or (id == i) uid u (home_in old.homes i) (sym (placed.home i) ∙ at)

  miss : (i : ℕ) (u : List ℕ) → i ≢ id → home_in old.homes i ≡ Some u → home_in new.homes i ≡ Some u
  miss i u other at = placed.home i ∙ ap (λ b. cond b (Some uid) (home_in old.homes i))
      (false_from_ne_true (id == i) (λ same. other (sym (eqb-true id i same)))) ∙ at

  less : (i : ℕ) → i ≤ old.made → i ≢ id
  less i le same = omega arith

  pub placed_spares : (cells : List Cell) → Spares old new uid cells
  placed_spares cells = record {
    known = placed.others;
    home = λ bound agrees u other i. (
      (λ at. elim (hit i u at) [ inl here ↦ absurd (other (sym here.1)) | inr there ↦ there.1 ]),
      λ at. miss i u (less i (bound i u at)) at,
    );
    baseline = placed.baseline;
    made = subst (λ n. old.made ≤ n) (sym placed.made) (omega arith);
  }

  pub placed_keeps : (cells behind : List Cell) (cell : Cell) (ready : Bool) → behind ≡ cells ++ cell ∷ []
      → id_of cell ≡ id → stages_in old uid ≡ stage.Live ready → Keeps old new uid cells behind
  placed_keeps cells behind cell ready comes is live =
      let ids : map id_of behind ≡ map id_of cells ++ id ∷ [] = ap (map id_of) comes ∙ ids_more cells cell
      ∙ ap (λ n. map id_of cells ++ n ∷ []) is in
      record {
        bound = λ bound i u at. subst (λ n. i ≤ n) (sym placed.made) (elim (hit i u at) [
          | inl here ↦ low i (eqb-true id i here.0)
          | inr there ↦ under i (bound i u there.1)
        ]);
        agrees = λ bound agrees. record {
          home = λ i. subst (λ is'. (home_in new.homes i ≡ Some uid) ↔ In i is') (sym ids) (
            (λ at. elim (hit i uid at) [
              | inl here ↦ subst (λ n. In n (map id_of cells ++ id ∷ [])) (eqb-true id i here.0)
                  (in_last (map id_of cells) id)
              | inr there ↦ in_more (map id_of cells) i id ((agrees.home i).0 there.1)
            ]),
            λ among. elim (in_either (map id_of cells) i id among) [
              | inl before ↦ miss i uid (less i (bound i uid ((agrees.home i).1 before)))
                  ((agrees.home i).1 before)
              | inr same ↦ placed.home i ∙ ap (λ b. cond b (Some uid) (home_in old.homes i))
                  (eq-eqb id i (sym same))
            ],
          );
          rise = subst (RiseAbove 0) (sym ids) (rise_more 0 id (map id_of cells) agrees.rise (omega arith)
              (λ x among. under_id x (bound x uid ((agrees.home x).1 among))));
          empty = subst (λ k. IsEmptyIn (stage_of k) behind) (sym placed.here)
              (live_any (known_in old.uids uid) container ready behind live);
        };
      }
    where
      low : (i : ℕ) → id ≡ i → i ≤ id
      low i same = omega arith

      under : (i : ℕ) → i ≤ old.made → i ≤ id
      under i le = omega arith

      under_id : (i : ℕ) → i ≤ old.made → i < id
      under_id i le = omega arith

pub unplaced_spares : (old new : Registry) (uid : List ℕ) (cells : List Cell) → IsUnplaced old new
    → Spares old new uid cells
unplaced_spares old new uid cells same = record {
  known = λ u other. same.known u;
  home = λ bound agrees u other i. ((λ at. sym (same.home bound i) ∙ at), λ at. same.home bound i ∙ at);
  baseline = same.baseline;
  made = subst (λ n. old.made ≤ n) (sym same.made) (omega arith);
}

pub unplaced_keeps : (old new : Registry) (uid : List ℕ) (cells behind : List Cell) → IsUnplaced old new
    → behind ≡ cells → Keeps old new uid cells behind
unplaced_keeps old new uid cells behind same still = record {
  bound = λ bound i u at. subst (λ n. i ≤ n) (sym same.made) (bound i u (sym (same.home bound i) ∙ at));
  agrees = λ bound agrees. subst (Agrees new uid) (sym still) (record {
    home = λ i. (
      (λ at. (agrees.home i).0 (sym (same.home bound i) ∙ at)),
      λ among. same.home bound i
          ∙ (agrees.home i).1 among,
    );
    rise = agrees.rise;
    empty = subst (λ k. IsEmptyIn (stage_of k) cells) (sym (same.known uid)) agrees.empty;
  });
}
