-- A call that does not change whether a sandbox exists is served with its list.
use Rattle.std.proofs.Common.{◌≡◌, ◌≢◌, ℕ, false, List, [], Option, Some, None, is_some, unwrap_or, refl, sym}
use Rattle.std.proofs.Common.{ap, ◌∙◌, subst}
use Rattle.cri_msgs.specs.declared.calls.Call.{Call}
use Rattle.cri_msgs.specs.declared.replies.Answer.{Answer}
use Rattle.runtime_cell.specs.Cell.{Cell}
use Rattle.creation.specs.declared.files.FileAnswers.{FileAnswers}
use Rattle.registry.specs.declared.registry.Registry.{Registry}
use Rattle.registry.specs.declared.stage.Stage.{Stage}
use Rattle.registry.specs.declared.stage.Stage.TheVariants as stage
use Rattle.cri_msgs.specs.Calls.{uid_of}
use Rattle.registry.specs.Serves.{Serves}
use Rattle.registry.specs.Stands.{Agrees, AreBound, IsEmptyIn, runtime_of, stages_in}
use Rattle.runtime_core.specs.Stands.{IsListFor, IsWhole, Lends, LendsTo, cells_in, list_in}
use Rattle.runtime_core.proofs.ById.{still_list}
use Rattle.runtime_core.proofs.Serving.{serves, whole_still}
use Rattle.runtime_core.proofs.Stays.{alive}

pub list_for : (s later : Stage) (l : Option (List Cell)) → alive later ≡ alive s → IsListFor s l
    → IsListFor later l
list_for stage.Unknown stage.Unknown l same listed = listed
list_for stage.Unknown (stage.Live ready) l same listed = absurd cc
list_for stage.Unknown stage.Removed l same listed = listed
list_for (stage.Live ready) stage.Unknown l same listed = absurd cc
list_for (stage.Live ready) (stage.Live now) l same listed = listed
list_for (stage.Live ready) stage.Removed l same listed = absurd cc
list_for stage.Removed stage.Unknown l same listed = listed
list_for stage.Removed (stage.Live ready) l same listed = absurd cc
list_for stage.Removed stage.Removed l same listed = listed

-- without a list there are no cells
pub no_cells_for : (s : Stage) (cells : List Cell) → IsListFor s None → IsEmptyIn s cells → cells ≡ []
no_cells_for stage.Unknown cells listed empty = empty
no_cells_for (stage.Live ready) cells listed empty = absurd cc
no_cells_for stage.Removed cells listed empty = empty

pub record Done (old new : Registry) (lists later : List (List ℕ × List Cell)) (call : Call)
    (files : FileAnswers) (answer : Answer) : Type 0 where
  pub does : Serves (runtime_of old (cells_in lists)) call files answer (runtime_of new (cells_in later))
  pub still : IsWhole new later

module _ (old new : Registry) (lists later : List (List ℕ × List Cell)) (call : Call) (files : FileAnswers)
    (answer : Answer) (whole : IsWhole old lists)
    (others : (u : List ℕ) → u ≢ uid_of call → list_in later u ≡ list_in lists u)
    (alike : (before behind : List Cell) → LendsTo old new call files answer before behind
    → alive (stages_in new (uid_of call)) ≡ alive (stages_in old (uid_of call))) where
  done_by : (l l' : Option (List Cell)) → list_in lists (uid_of call) ≡ l → list_in later (uid_of call) ≡ l'
      → Lends old new call files answer l l' → Done old new lists later call files answer
  done_by None behind was is lends =
      let cells = lends.1.0 in
      let lent = lends.1.1 in
      let same = alike [] cells lent in
      let listed : IsListFor (stages_in new (uid_of call)) (list_in later (uid_of call)) =
      subst (IsListFor (stages_in new (uid_of call))) (was ∙ sym (is ∙ lends.0))
      (list_for (stages_in old (uid_of call)) (stages_in new (uid_of call))
      (list_in lists (uid_of call)) same (whole.listed (uid_of call))) in
      let before : cells_in lists (uid_of call) ≡ [] = ap (λ l. unwrap_or l []) was in
      let behind_none : cells_in later (uid_of call) ≡ [] = ap (λ l. unwrap_or l []) (is ∙ lends.0) in
      let agrees = lent.keeps.agrees whole.bound
      (subst (Agrees old (uid_of call)) before (whole.agrees (uid_of call))) in
      let empty : cells ≡ [] = no_cells_for (stages_in new (uid_of call)) cells
      (subst (IsListFor (stages_in new (uid_of call))) (is ∙ lends.0) listed) agrees.empty in
      record {
        does = serves old new lists later call files answer [] cells whole before (behind_none
            ∙ sym empty) others lent listed;
        still = whole_still old new lists later call files answer [] cells whole before (behind_none
            ∙ sym empty) others lent listed;
      }
  done_by (Some before) None was is lends = elim lends [ ]
  done_by (Some before) (Some behind) was is lends =
      let same = alike before behind lends in
      let listed : IsListFor (stages_in new (uid_of call)) (list_in later (uid_of call)) =
      list_for (stages_in old (uid_of call)) (stages_in new (uid_of call)) (list_in later (uid_of call)) same
      (still_list (stages_in old (uid_of call)) (list_in lists (uid_of call)) (list_in later (uid_of call))
      (ap is_some is ∙ sym (ap is_some was)) (whole.listed (uid_of call))) in
      record {
        does = serves old new lists later call files answer before behind whole (ap (λ l. unwrap_or l []) was)
            (ap (λ l. unwrap_or l []) is) others lends listed;
        still = whole_still old new lists later call files answer before behind whole
            (ap (λ l. unwrap_or l []) was) (ap (λ l. unwrap_or l []) is) others lends listed;
      }

  pub done : Lends old new call files answer (list_in lists (uid_of call)) (list_in later (uid_of call))
      → Done old new lists later call files answer
  done lends = done_by (list_in lists (uid_of call)) (list_in later (uid_of call)) refl refl lends

-- an existing list is lent
pub lent_some : (old new : Registry) (call : Call) (files : FileAnswers) (answer : Answer)
    (before : List Cell) (l later : Option (List Cell)) → l ≡ Some before
    → Lends old new call files answer l later → (behind : List Cell) × (later ≡ Some behind)
    × LendsTo old new call files answer before behind
lent_some old new call files answer before None later is lends = absurd cc
lent_some old new call files answer before (Some cells) None is lends = elim lends [ ]
lent_some old new call files answer before (Some cells) (Some behind) is lends =
    (behind, refl, subst (λ xs. LendsTo old new call files answer xs behind) (some_same is) lends)
  where
    some_same : {a b : List Cell} → Some a ≡ Some b → a ≡ b
    some_same e = cc

pub dead_none : (s : Stage) → alive s ≡ false → IsListFor s None
dead_none stage.Unknown is = refl
dead_none (stage.Live ready) is = absurd cc
dead_none stage.Removed is = refl

-- if no sandbox exists its list is empty, so having none is as good
pub lent_none : (old new : Registry) (call : Call) (files : FileAnswers) (answer : Answer)
    (before behind : List Cell) → AreBound old → Agrees old (uid_of call) before
    → alive (stages_in new (uid_of call)) ≡ false → LendsTo old new call files answer before behind
    → LendsTo old new call files answer before []
lent_none old new call files answer before behind bound agrees is lent =
    subst (LendsTo old new call files answer before)
    (no_cells_for (stages_in new (uid_of call)) behind (dead_none (stages_in new (uid_of call)) is)
    (lent.keeps.agrees bound agrees).empty) lent
