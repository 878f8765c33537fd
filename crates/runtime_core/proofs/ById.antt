-- The cells of all sandboxes by their ids.
use Rattle.std.proofs.Common.{◌≡◌, ◌≢◌, ◌↔◌, inl, inr, ℕ, false, List, [], ◌∷◌, ◌++◌, map, Option, Some, None}
use Rattle.std.proofs.Common.{IsSome, is_some, unwrap_or, refl, sym, ap, ◌∙◌, subst}
use Rattle.runtime_cell.specs.declared.cell.Did.{Did}
use Rattle.runtime_cell.specs.Cell.{Cell, Steps, killed}
use Rattle.registry.specs.declared.known.Known.{Known}
use Rattle.registry.specs.declared.known.Known.TheVariants as known
use Rattle.registry.specs.declared.registry.Registry.{Registry}
use Rattle.registry.specs.declared.stage.Stage.{Stage}
use Rattle.registry.specs.declared.stage.Stage.TheVariants as stage
use Rattle.registry.specs.Kept.{HasNoneIn, IsNextIn, MayKillIn, MayStepIn, MovesIn, ReadsIn, home_in}
use Rattle.registry.specs.Kept.{known_in, stage_of}
use Rattle.registry.specs.Runtime.{In, id_of}
use Rattle.registry.specs.Stands.{Agrees, IsEmptyIn, RiseAbove, cells_of, runtime_of, sandbox_of, stages_in}
use Rattle.registry.specs.Stands.{used_of}
use Rattle.runtime_core.specs.Stands.{IsListFor, IsWhole, cells_in, ids_in, list_in}
use Rattle.runtime_core.specs.Steps.{HasNone, HasOne, IsNext, MayKill, MayStep, MovesCell, Reads}
use Rattle.registry.proofs.Texts.{text_cases}

in_ids : (cells : List Cell) (cell : Cell) → In cell cells → In (id_of cell) (map id_of cells)
in_ids [] cell among = elim among [ ]
in_ids (first ∷ cells) cell (inl same) = inl (ap id_of same)
in_ids (first ∷ cells) cell (inr among) = inr (in_ids cells cell among)

of_id : (cells : List Cell) (id : ℕ) → In id (map id_of cells) → (cell : Cell) × In cell cells
    × (id_of cell ≡ id)
of_id [] id among = elim among [ ]
of_id (first ∷ cells) id (inl same) = (first, inl refl, sym same)
of_id (first ∷ cells) id (inr among) = let more = of_id cells id among in (more.0, inr more.1, more.2)

under : (k : Option Known) (cells : List Cell) (cell : Cell) → In cell (cells_of k cells) → In cell cells
under None cells cell among = elim among [ ]
under (Some (known.Live live)) cells cell among = among
under (Some known.Removed) cells cell among = elim among [ ]

nothing_in : (cells : List Cell) (cell : Cell) → cells ≡ [] → In cell cells → ⊥
nothing_in cells cell none among = elim (subst (In cell) none among) [ ]

-- if a cell exists, so does its sandbox
all_of : (k : Option Known) (cells : List Cell) (cell : Cell) → IsEmptyIn (stage_of k) cells → In cell cells
    → (xs : List Cell) → cells_of k xs ≡ xs
all_of None cells cell empty among xs = absurd (nothing_in cells cell empty among)
all_of (Some (known.Live live)) cells cell empty among xs = refl
all_of (Some known.Removed) cells cell empty among xs = absurd (nothing_in cells cell empty among)

any_list : (s : Stage) (cells : List Cell) (cell : Cell) → IsEmptyIn s cells → In cell cells
    → (xs : List Cell) → IsEmptyIn s xs
any_list stage.Unknown cells cell empty among xs = absurd (nothing_in cells cell empty among)
any_list (stage.Live ready) cells cell empty among xs = tt
any_list stage.Removed cells cell empty among xs = absurd (nothing_in cells cell empty among)

none_if : (l : Option (List Cell)) → is_some l ≡ false → l ≡ None
none_if None is = refl
none_if (Some cells) is = absurd cc

pub still_list : (s : Stage) (l later : Option (List Cell)) → is_some later ≡ is_some l → IsListFor s l
    → IsListFor s later
still_list stage.Unknown l later same listed = none_if later (same ∙ ap is_some listed)
still_list (stage.Live ready) l later same listed = same ∙ listed
still_list stage.Removed l later same listed = none_if later (same ∙ ap is_some listed)

mid : (front back : List Cell) (cell : Cell) → In cell (front ++ cell ∷ back)
mid [] back cell = inl refl
mid (first ∷ front) back cell = inr (mid front back cell)

module _ (registry : Registry) (lists : List (List ℕ × List Cell)) (whole : IsWhole registry lists) where
  at_home : (uid : List ℕ) (cell : Cell) → In cell ((runtime_of registry (cells_in lists)).sandbox uid).cells
      → home_in registry.homes (id_of cell) ≡ Some uid
  at_home uid cell among = ((whole.agrees uid).home (id_of cell)).1
      (in_ids (cells_in lists uid) cell (under (known_in registry.uids uid) (cells_in lists uid) cell among))

  pub none_by_id : (id : ℕ) → home_in registry.homes id ≡ None
      → HasNone (runtime_of registry (cells_in lists)) id
  none_by_id id none uid cell among same =
      clash (home_in registry.homes id) uid none (ap (home_in registry.homes) (sym same)
      ∙ at_home uid cell among)
    where
      clash : (h : Option (List ℕ)) (u : List ℕ) → h ≡ None → h ≡ Some u → ⊥
      clash h u one other = cc

  there : (id : ℕ) (uid : List ℕ) → home_in registry.homes id ≡ Some uid → (cell : Cell)
      × In cell (cells_in lists uid) × (id_of cell ≡ id)
  there id uid at = of_id (cells_in lists uid) id (((whole.agrees uid).home id).0 at)

  not_none : (id : ℕ) (uid : List ℕ) → home_in registry.homes id ≡ Some uid
      → HasNoneIn (cells_in lists uid) id → ⊥
  not_none id uid at none = let one = there id uid at in none one.0 one.1 one.2

  pub one_by_id : (id : ℕ) (uid : List ℕ) → home_in registry.homes id ≡ Some uid
      → HasOne (runtime_of registry (cells_in lists)) id
  one_by_id id uid at =
      let one = there id uid at in (
        uid,
        one.0,
        subst (In one.0) (sym (all_of (known_in registry.uids uid) (cells_in lists uid) one.0
            (whole.agrees uid).empty one.1 (cells_in lists uid))) one.1,
        one.2,
      )

  pub reads_by_id : (id : ℕ) (uid : List ℕ) (r : Option Cell) → home_in registry.homes id ≡ Some uid
      → ReadsIn (cells_in lists uid) id r → Reads (runtime_of registry (cells_in lists)) id r
  reads_by_id id uid None at none = absurd (not_none id uid at none)
  reads_by_id id uid (Some cell) at one = (
    uid,
    subst (In cell) (sym (all_of (known_in registry.uids uid) (cells_in lists uid) cell
        (whole.agrees uid).empty one.0 (cells_in lists uid))) one.0,
    one.1,
  )

  some_home : (h : Option (List ℕ)) → IsSome h → (uid : List ℕ) × (h ≡ Some uid)
  some_home None some = absurd cc
  some_home (Some uid) some = (uid, refl)

  pub next_by_id : (above : ℕ) (r : Option ℕ) → IsNextIn (home_in registry.homes) above r
      → IsNext (runtime_of registry (cells_in lists)) above r
  next_by_id above None next = λ id more. none_by_id id (next id more)
  next_by_id above (Some id) next =
      let home = some_home (home_in registry.homes id) next.1 in (
        next.0,
        one_by_id id home.0 home.1,
        λ i more one. next.2 i more (subst IsSome
            (sym (ap (home_in registry.homes) (sym one.3) ∙ at_home one.0 one.1 one.2)) refl),
      )

  module _ (later : List (List ℕ × List Cell)) (id : ℕ) (uid : List ℕ)
      (at : home_in registry.homes id ≡ Some uid)
      (ids : ids_in later uid ≡ ids_in lists uid)
      (listed : is_some (list_in later uid) ≡ is_some (list_in lists uid))
      (others : (u : List ℕ) → u ≢ uid → list_in later u ≡ list_in lists u) where
    pub whole_by_id : IsWhole registry later
    whole_by_id =
        let one = there id uid at in
        let here : Agrees registry uid (cells_in later uid) = record {
          home = λ i. subst (λ is. (home_in registry.homes i ≡ Some uid) ↔ In i is) (sym ids)
              ((whole.agrees uid).home i);
          rise = subst (RiseAbove 0) (sym ids) (whole.agrees uid).rise;
          empty = any_list (stages_in registry uid) (cells_in lists uid) one.0 (whole.agrees uid).empty one.1
              (cells_in later uid);
        } in
        record {
          bound = whole.bound;
          agrees = λ u. elim (text_cases u uid) [
            | inl same ↦ subst (λ v. Agrees registry v (cells_in later v)) (sym same) here
            | inr other ↦ subst (Agrees registry u) (sym (ap (λ l. unwrap_or l []) (others u other)))
                (whole.agrees u)
          ];
          listed = λ u. elim (text_cases u uid) [
            | inl same ↦ subst (λ v. IsListFor (stages_in registry v) (list_in later v)) (sym same)
                (still_list (stages_in registry uid) (list_in lists uid) (list_in later uid) listed
                (whole.listed uid))
            | inr other ↦ subst (IsListFor (stages_in registry u)) (sym (others u other)) (whole.listed u)
          ];
        }

    moved : (Moves : Cell → Cell → Type 0) → MovesIn (cells_in lists uid) id Moves (cells_in later uid)
        → MovesCell (runtime_of registry (cells_in lists)) id Moves (runtime_of registry (cells_in later))
    moved Moves m =
        let k = known_in registry.uids uid in
        let all = all_of k (cells_in lists uid) m.cell (whole.agrees uid).empty
        (subst (In m.cell) (sym m.stands) (mid m.front m.back m.cell)) in
        record {
          uid = uid;
          front = m.front;
          cell = m.cell;
          later = m.later;
          back = m.back;
          stands = all (cells_in lists uid) ∙ m.stands;
          is = m.is;
          moves = m.moves;
          sandbox = ap (λ (cells : List Cell). record { stage = stage_of k; cells = cells; used = used_of k })
              (all (cells_in later uid) ∙ m.comes);
          others = λ u other. ap (λ l. sandbox_of (known_in registry.uids u) (unwrap_or l []))
              (others u other);
          made = refl;
          baseline = refl;
        }

    pub step_by_id : (r : Option Did) → MayStepIn (cells_in lists uid) id r (cells_in later uid)
        → MayStep (runtime_of registry (cells_in lists)) id r (runtime_of registry (cells_in later))
    step_by_id None none = absurd (not_none id uid at none.0)
    step_by_id (Some did) m = moved (λ cell next. Steps cell did next) m

    pub kill_by_id : {A : Type 0} (code : ℕ) (r : Option A)
        → MayKillIn (cells_in lists uid) id code r (cells_in later uid)
        → MayKill (runtime_of registry (cells_in lists)) id code r (runtime_of registry (cells_in later))
    kill_by_id code None none = absurd (not_none id uid at none.0)
    kill_by_id code (Some _) m = moved (λ cell next. next ≡ killed code cell) m
