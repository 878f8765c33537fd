-- A step of a cell in the list of its sandbox is an event of the runtime.
use Rattle.std.proofs.Common.{◌≡◌, ◌≢◌, ◌⊎◌, inl, inr, ℕ, if◌then◌else◌, List, [], ◌∷◌, ◌++◌, map, Option}
use Rattle.std.proofs.Common.{Some, refl, sym, ap, ◌∙◌, subst}
use Rattle.std.specs.Str.{bytes_eq}
use Rattle.runtime_cell.specs.declared.cell.Did.{Did}
use Rattle.runtime_cell.specs.declared.cell.State.{State}
use Rattle.runtime_cell.specs.declared.cell.State.TheVariants.{Created, Running, Exited}
use Rattle.runtime_cell.specs.Cell.{Cell, StepsIn, after}
use Rattle.runtime_cell.specs.Outcome.{Next}
use Rattle.runtime_cell.specs.Outcome.Next.{Goes, Stops, Over}
use Rattle.registry.specs.declared.known.Known.{Known}
use Rattle.registry.specs.declared.registry.Registry.{Registry}
use Rattle.registry.specs.declared.stage.Stage.{Stage}
use Rattle.registry.specs.declared.stage.Stage.TheVariants as stage
use Rattle.registry.specs.Kept.{MayStepIn, known_in, stage_of}
use Rattle.registry.specs.Runtime.{In, IsKnown, Runtime, Sandbox, id_of}
use Rattle.registry.specs.Serves.{with_cells}
use Rattle.registry.specs.Stands.{Agrees, IsEmptyIn, RiseAbove, sandbox_of, used_of}
use Rattle.runtime_core.specs.Steps.{MayStep}
use Rattle.runtime_laws.proofs.Lists.{in_split}
use Rattle.runtime_history.specs.History.{IsRunning}
use Rattle.runtime_history.specs.Agreed.{HasCells, HasRegistry, cells_in}
use Rattle.runtime_history.proofs.Serving.{cells_there}
use Rattle.registry.proofs.Texts.{other_text, same_text, text_cases}

no_ids : (cells : List Cell) → map id_of cells ≡ [] → cells ≡ []
no_ids [] none = refl
no_ids (cell ∷ cells) none = absurd cc

still_empty : (s : Stage) (cells later : List Cell) → map id_of later ≡ map id_of cells → IsEmptyIn s cells
    → IsEmptyIn s later
still_empty stage.Unknown cells later ids empty = no_ids later (ids ∙ ap (map id_of) empty)
still_empty (stage.Live ready) cells later ids empty = tt
still_empty stage.Removed cells later ids empty = no_ids later (ids ∙ ap (map id_of) empty)

still_agrees : (r : Registry) (uid : List ℕ) (cells later : List Cell) → map id_of later ≡ map id_of cells
    → Agrees r uid cells → Agrees r uid later
still_agrees r uid cells later ids agrees = record {
  home = λ id. (
    (λ at. subst (λ (l : List ℕ). In id l) (sym ids) ((agrees.home id).0 at)),
    λ among. (agrees.home id).1 (subst (λ (l : List ℕ). In id l) ids among),
  );
  rise = subst (RiseAbove 0) (sym ids) agrees.rise;
  empty = still_empty _ cells later ids agrees.empty;
}

moved : (k : Option Known) (cells later : List Cell) → IsEmptyIn (stage_of k) later
    → with_cells (sandbox_of k cells) later ≡ sandbox_of k later
moved k cells later empty = λ i. record {
  stage = stage_of k;
  cells = sym (cells_there k later empty) i;
  used = used_of k;
}

-- the one in the middle, or one that is there whatever the middle is
in_parts : (front : List Cell) (x : Cell) (back : List Cell) (cell : Cell) → In cell (front ++ x ∷ back)
    → (cell ≡ x) ⊎ ((y : Cell) → In cell (front ++ y ∷ back))
in_parts [] x back cell (inl here) = inl here
in_parts [] x back cell (inr there) = inr (λ y. inr there)
in_parts (z ∷ front) x back cell (inl here) = inr (λ y. inl here)
in_parts (z ∷ front) x back cell (inr there) = elim (in_parts front x back cell there) [
  | inl same ↦ inl same
  | inr other ↦ inr (λ y. inr (other y))
]

id_after : (cell : Cell) (next : Next) → id_of (after cell next) ≡ id_of cell
id_after cell (Goes entry more) = refl
id_after cell (Stops entry code) = refl
id_after cell (Over code) = refl

id_kept : (state : State) (cell : Cell) (did : Did) (next : Cell) → StepsIn state cell did next
    → id_of next ≡ id_of cell
id_kept Created cell did next step = ap id_of step.1
id_kept Running cell did next step = ap id_of step.3 ∙ id_after cell step.0
id_kept (Exited code by) cell did next step = ap id_of step.1

ran_before : (state : State) (cell : Cell) (did : Did) (next : Cell) → StepsIn state cell did next
    → cell.state ≡ state → next.state ≡ Running → cell.state ≡ Running
ran_before Created cell did next step was runs = sym (ap (λ (c : Cell). c.state) step.1) ∙ runs
ran_before Running cell did next step was runs = was
ran_before (Exited code by) cell did next step was runs = sym (ap (λ (c : Cell). c.state) step.1) ∙ runs

module _ (s : Runtime) (uid : List ℕ) (cells behind : List Cell) (id : ℕ) (did : Did)
    (has : HasCells s uid cells) (steps : MayStepIn cells id (Some did) behind)
    (ids : map id_of behind ≡ map id_of cells) where
  abbrev pub sandbox_at : List ℕ → Sandbox
  sandbox_at u = if bytes_eq uid u then with_cells (s.sandbox u) behind else s.sandbox u

  -- the runtime after it
  abbrev pub later : Runtime
  later = record { baseline = s.baseline; made = s.made; sandbox = sandbox_at }

  at_uid : sandbox_at uid ≡ with_cells (s.sandbox uid) behind
  at_uid = ap (λ b. if b then with_cells (s.sandbox uid) behind else s.sandbox uid) (same_text uid)

  pub at_other : (u : List ℕ) → u ≢ uid → sandbox_at u ≡ s.sandbox u
  at_other u other = ap (λ b. if b then with_cells (s.sandbox u) behind else s.sandbox u)
      (other_text uid u other)

  pub may_step : MayStep s id (Some did) later
  may_step = record {
    uid = uid;
    front = steps.front;
    cell = steps.cell;
    later = steps.later;
    back = steps.back;
    stands = has.are ∙ steps.stands;
    is = steps.is;
    moves = steps.moves;
    sandbox = at_uid ∙ ap (with_cells (s.sandbox uid)) steps.comes;
    others = at_other;
    made = refl;
    baseline = refl;
  }

  pub has_behind : HasCells later uid behind
  has_behind = record {
    are = ap (λ (x : Sandbox). x.cells) at_uid;
    known = subst (λ (x : Sandbox). IsKnown x.stage) (sym at_uid) has.known;
  }

  module _ (r : Registry) (kept : HasRegistry s r) where
    ids_here : map id_of (cells_in later uid) ≡ map id_of (cells_in s uid)
    ids_here = ap (map id_of) has_behind.are ∙ ids ∙ ap (map id_of) (sym has.are)

    agree : (u : List ℕ) → Agrees r u (cells_in later u)
    agree u = elim (text_cases u uid) [
      | inl same ↦ subst (λ v. Agrees r v (cells_in later v)) (sym same)
          (still_agrees r uid (cells_in s uid) (cells_in later uid) ids_here (kept.agrees uid))
      | inr other ↦ subst (λ (x : Sandbox). Agrees r u x.cells) (sym (at_other u other)) (kept.agrees u)
    ]

    was : (u : List ℕ) → s.sandbox u ≡ sandbox_of (known_in r.uids u) (cells_in s u)
    was u = ap (λ (x : Runtime). x.sandbox u) kept.whole

    sandbox_here : sandbox_at uid ≡ sandbox_of (known_in r.uids uid) (cells_in later uid)
    sandbox_here = at_uid ∙ ap (λ x. with_cells x behind) (was uid)
        ∙ moved (known_in r.uids uid) (cells_in s uid) behind
        (subst (IsEmptyIn (stage_of (known_in r.uids uid))) has_behind.are (agree uid).empty)
        ∙ ap (sandbox_of (known_in r.uids uid)) (sym has_behind.are)

    sandbox_there : (u : List ℕ) → sandbox_at u ≡ sandbox_of (known_in r.uids u) (cells_in later u)
    sandbox_there u = elim (text_cases u uid) [
      | inl same ↦ subst (λ v. sandbox_at v ≡ sandbox_of (known_in r.uids v) (cells_in later v)) (sym same)
          sandbox_here
      | inr other ↦ at_other u other ∙ was u
          ∙ ap (λ (x : Sandbox). sandbox_of (known_in r.uids u) x.cells) (sym (at_other u other))
    ]

    pub still_registry : HasRegistry later r
    still_registry = record {
      whole = λ i. record {
        baseline = (kept.whole i).baseline;
        made = (kept.whole i).made;
        sandbox = λ u. sandbox_there u i;
      };
      bound = kept.bound;
      agrees = agree;
    }

  -- a cell that runs after the step ran before it
  ran_here : (i : ℕ) (cell : Cell) → In cell behind → id_of cell ≡ i → cell.state ≡ Running → IsRunning s i
  ran_here i cell at is runs = elim (in_parts steps.front steps.later steps.back cell
      (subst (λ (l : List Cell). In cell l) steps.comes at)) [
        | inl same ↦ record {
          uid = uid;
          cell = steps.cell;
          there = subst (λ (l : List Cell). In steps.cell l) (sym (has.are ∙ steps.stands))
              (in_split steps.front steps.cell steps.back);
          is = sym (id_kept steps.cell.state steps.cell did steps.later steps.moves)
              ∙ ap id_of (sym same) ∙ is;
          runs = ran_before steps.cell.state steps.cell did steps.later steps.moves refl
              (sym (ap (λ (c : Cell). c.state) same) ∙ runs);
        }
        | inr other ↦ record {
          uid = uid;
          cell = cell;
          there = subst (λ (l : List Cell). In cell l) (sym (has.are ∙ steps.stands)) (other steps.cell);
          is = is;
          runs = runs;
        }
      ]

  pub ran : (i : ℕ) → IsRunning later i → IsRunning s i
  ran i runs = elim (text_cases runs.uid uid) [
    | inl same ↦ ran_here i runs.cell
        (subst (λ (l : List Cell). In runs.cell l) has_behind.are
        (subst (λ (u : List ℕ). In runs.cell (cells_in later u)) same runs.there)) runs.is runs.runs
    | inr other ↦ record {
      uid = runs.uid;
      cell = runs.cell;
      there = subst (λ (x : Sandbox). In runs.cell x.cells) (at_other runs.uid other) runs.there;
      is = runs.is;
      runs = runs.runs;
    }
  ]
