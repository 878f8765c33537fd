-- A text has one first fault, or it is a script.
use Rattle.std.proofs.Common.{◌≡◌, ℕ, suc, ◌+◌, ◌<◌, get_or, map, take, drop, List, [], ◌∷◌, ◌++◌, length}
use Rattle.std.proofs.Common.{Result, Ok, Err, refl, sym, ap, subst, ◌∙◌, arith}
use Rattle.std.specs.Prelude.{◌≢◌}
use Rattle.bpf_code.specs.declared.insn.Insn.{Insn}
use Rattle.serde_json.specs.Data.{Data}
use Rattle.json_tree.specs.Reading.{Both}
use Rattle.json_tree.specs.Reading.{as_fault}
use Rattle.sys_table.specs.declared.calls.CallTable.{CallTable}
use Rattle.script.specs.declared.faults.ScriptFault.TheVariants.{Memory}
use Rattle.script.specs.declared.placed.ScriptFaultAt.{ScriptFaultAt}
use Rattle.script.specs.Faults.{fault_of_step}
use Rattle.script.specs.declared.scripts.Step.{Step}
use Rattle.script.specs.declared.scripts.Step.TheVariants.{Call, Exit, ExitByAttempt, Install}
use Rattle.script.specs.Script.{HasSoundFilters, IsSoundStep, IsStep, ReadsScriptWith}
use Rattle.script.specs.Reading.{step_of, text_items, StepText, IsReadAs, HasFault, IsRefused, IsFirstOfSteps}
use Rattle.script.specs.Reading.{IsFirstIn, IsFirstFaultAt, GivesStep, GivesSteps, Reads}
use Rattle.script.specs.Reading.StepText.{Whole, Installs}
use Rattle.serde_json.specs.View.{view}
use Rattle.serde_json.specs.declared.value.Value.{Value}
use Rattle.json_tree.proofs.Loops.{map_more, map_parts}
use Rattle.script.proofs.Found.{step_found}
use Rattle.script.proofs.Rows.{AreToldApart, one_code, both_push}
use Rattle.script.proofs.Only.{step_only, items_only}

pub length_both : {A B : Type 0} (R : A → B → Type 0) (xs : List A) (ys : List B) → Both R xs ys
    → length ys ≡ length xs
length_both R [] [] all = refl
length_both R [] (y ∷ ys) all = absurd all
length_both R (x ∷ xs) [] all = absurd all
length_both R (x ∷ xs) (y ∷ ys) all = omega (arith, length_both R xs ys all.1)

-- a step is not refused
not_refused : (text : StepText) (step : Step) → IsReadAs text step → IsRefused text → ⊥
not_refused (Whole known) step is refused = refused
not_refused (Installs numbers on_error) step is refused = refused is.0 is.1

-- a step has no fault
no_fault : (calls : CallTable) (item : Data) (step : Step) (fault : ScriptFaultAt) → IsStep calls item step
    → HasFault (step_of calls item) fault → ⊥
no_fault calls item step fault is has =
    let read = step_only calls item step is in
    not_refused read.0 step read.2 (subst (λ r. HasFault r fault) read.1 has).0

-- an item with a fault has only this fault
fault_one : (reading : Result StepText ScriptFaultAt) (fault other : ScriptFaultAt) → HasFault reading fault
    → HasFault reading other → fault ≡ other
fault_one (Err found) fault other has also = has ∙ sym also
fault_one (Ok text) fault other has also = has.1 ∙ sym also.1

same_head : (x y : Data) (xs ys : List Data) → x ∷ xs ≡ y ∷ ys → x ≡ y
same_head x y xs ys e = cc

same_tail : (x y : Data) (xs ys : List Data) → x ∷ xs ≡ y ∷ ys → xs ≡ ys
same_tail x y xs ys e = cc

first_one : (calls : CallTable) (before other_before : List Data) (item other : Data) (behind other_behind : List Data)
    (steps others : List Step) (fault also : ScriptFaultAt)
    → before ++ item ∷ behind ≡ other_before ++ other ∷ other_behind → Both (IsStep calls) before steps
    → Both (IsStep calls) other_before others
    → HasFault (step_of calls item) fault → HasFault (step_of calls other) also → (length before ≡ length other_before)
    × (fault ≡ also)
first_one calls [] [] item other behind other_behind steps others fault also same each all has had = (
  refl,
  fault_one (step_of calls item) fault also has
      (subst (λ d. HasFault (step_of calls d) also) (sym (same_head item other behind other_behind same)) had),
)
first_one calls [] (x ∷ more) item other behind other_behind steps [] fault also same each all has had = absurd all
first_one calls [] (x ∷ more) item other behind other_behind steps (y ∷ others) fault also same each all has had =
    absurd (no_fault calls x y fault all.0 (subst (λ d. HasFault (step_of calls d) fault)
    (same_head item x behind (more ++ other ∷ other_behind) same) has))
first_one calls (x ∷ more) [] item other behind other_behind [] others fault also same each all has had =
    absurd each
first_one calls (x ∷ more) [] item other behind other_behind (y ∷ steps) others fault also same each all has had =
    absurd (no_fault calls x y also each.0 (subst (λ d. HasFault (step_of calls d) also)
    (sym (same_head x other (more ++ item ∷ behind) other_behind same)) had))
first_one calls (x ∷ more) (z ∷ rest) item other behind other_behind [] others fault also same each all has had =
    absurd each
first_one calls (x ∷ more) (z ∷ rest) item other behind other_behind (y ∷ steps)
    [] fault also same each all has had = absurd all
first_one calls (x ∷ more) (z ∷ rest) item other behind other_behind (y ∷ steps)
    (w ∷ others) fault also same each all has had =
    let next = first_one calls more rest item other behind other_behind steps others fault also
    (same_tail x z (more ++ item ∷ behind) (rest ++ other ∷ other_behind) same) each.1 all.1 has had in
    (ap suc next.0, next.1)

-- if all are steps, none has a fault
none_first : (calls : CallTable) (before : List Data) (item : Data) (behind : List Data) (steps : List Step)
    (fault : ScriptFaultAt) → Both (IsStep calls) (before ++ item ∷ behind) steps
    → HasFault (step_of calls item) fault → ⊥
none_first calls [] item behind [] fault each has = each
none_first calls [] item behind (step ∷ steps) fault each has = no_fault calls item step fault each.0 has
none_first calls (x ∷ before) item behind [] fault each has = each
none_first calls (x ∷ before) item behind (step ∷ steps) fault each has =
    none_first calls before item behind steps fault each.1 has

steps_one : (calls : CallTable) (reading : Result (List Data) ScriptFaultAt) (fault also : ScriptFaultAt)
    → IsFirstIn calls reading fault → IsFirstIn calls reading also → fault ≡ also
steps_one calls (Err found) fault also first other = first ∙ sym other
steps_one calls (Ok items) fault also first other =
    let same = first_one calls first.before other.before first.item other.item first.behind other.behind first.steps
    other.steps first.own other.own
    (sym first.stands ∙ other.stands) first.each other.each first.has other.has in
    first.is ∙ ap (λ (index : ℕ). fault_of_step index first.own) same.0
    ∙ ap (fault_of_step (length other.before)) same.1 ∙ sym other.is

no_steps : (calls : CallTable) (items : List Data) (steps : List Step) (fault : ScriptFaultAt) → Both (IsStep calls) items steps
    → IsFirstOfSteps calls items fault → ⊥
no_steps calls items steps fault each first =
    none_first calls first.before first.item first.behind steps first.own
    (subst (λ ds. Both (IsStep calls) ds steps) first.stands each) first.has

-- a text with a first fault is refused for it
pub told : (calls : CallTable) (bytes : List ℕ) (result : Result (List Step) ScriptFaultAt) (fault : ScriptFaultAt)
    → GivesSteps calls result (text_items bytes) → IsFirstFaultAt calls bytes fault
    → Reads (λ steps. steps) result (Err fault)
told calls bytes (Ok steps) fault gives first =
    absurd (no_steps calls gives.0 steps fault gives.2 (subst (λ r. IsFirstIn calls r fault) gives.1 first))
told calls bytes (Err other) fault gives first = λ known.
    ap Err (steps_one calls (text_items bytes) fault other first (gives known))

same_text : (x y : StepText) (r : Result StepText ScriptFaultAt) → r ≡ Ok x → r ≡ Ok y → x ≡ y
same_text x y r one other = cc

-- a reading is at most one step
read_one : AreToldApart → (text : StepText) (step other : Step) → IsReadAs text step → IsReadAs text other
    → step ≡ other
read_one apart (Whole known) step other is also = is ∙ sym also
read_one apart (Installs numbers on_error) step other is also =
    is.2 ∙ ap (λ (filter : List Insn). Install filter on_error)
    (one_code apart numbers is.0 also.0 is.1.each also.1.each) ∙ sym also.2

step_one : (calls : CallTable) → AreToldApart → (item : Data) (step other : Step) → IsStep calls item step → IsStep calls item other
    → step ≡ other
step_one calls apart item step other is also =
    let read = step_only calls item step is in
    let had = step_only calls item other also in
    read_one apart read.0 step other read.2
    (subst (λ text. IsReadAs text other) (same_text had.0 read.0 (step_of calls item) had.1 read.1) had.2)

all_one : (calls : CallTable) → AreToldApart → (items : List Data) (steps others : List Step) → Both (IsStep calls) items steps
    → Both (IsStep calls) items others → steps ≡ others
all_one calls apart [] [] [] all also = refl
all_one calls apart [] [] (y ∷ others) all also = absurd also
all_one calls apart [] (x ∷ steps) others all also = absurd all
all_one calls apart (d ∷ items) [] others all also = absurd all
all_one calls apart (d ∷ items) (x ∷ steps) [] all also = absurd also
all_one calls apart (d ∷ items) (x ∷ steps) (y ∷ others) all also =
    ap (λ (s : Step). s ∷ steps) (step_one calls apart d x y all.0 also.0)
    ∙ ap (λ (ss : List Step). y ∷ ss) (all_one calls apart items steps others all.1 also.1)

same_items : (x y : List Data) (r : Result (List Data) ScriptFaultAt) → r ≡ Ok x → r ≡ Ok y → x ≡ y
same_items x y r one other = cc

-- a text's script is read
pub only : (calls : CallTable) → AreToldApart → (bytes : List ℕ) (result : Result (List Step) ScriptFaultAt) (steps : List Step)
    → GivesSteps calls result (text_items bytes) → ReadsScriptWith calls bytes steps
    → Reads (λ steps. steps) result (Ok steps)
only calls apart bytes (Ok others) steps gives is =
    let items = items_only calls bytes steps is in
    let same : items.0 ≡ gives.0 = same_items items.0 gives.0 (text_items bytes) items.1 gives.1 in
    ap Ok (all_one calls apart gives.0 steps others (subst (λ ds. Both (IsStep calls) ds steps) same items.2) gives.2)
only calls apart bytes (Err fault) steps gives is = λ known.
    let items = items_only calls bytes steps is in
    absurd (no_steps calls items.0 steps fault items.2 (subst (λ r. IsFirstIn calls r fault) items.1 (gives known)))

-- one item is a step, as it is read
pub step_read : (index : ℕ) (read : Result Step ScriptFaultAt) (reading : Result StepText ScriptFaultAt)
    (step : Step) → GivesStep read reading
    → as_fault (fault_of_step index) read ≡ Ok step → GivesStep (Ok step) reading
step_read index (Ok other) reading step here is =
    let same : other ≡ step = cc in
    subst (λ s. GivesStep (Ok s) reading) same here
step_read index (Err found) reading step here is = absurd cc

-- one more item is a step
pub steps_more : (calls : CallTable) (items : List Value) (i : ℕ) (v : Value) (steps : List Step)
    (read : Result Step ScriptFaultAt) (step : Step) → i < length items → v ≡ get_or items i v
    → Both (IsStep calls) (map view (take i items)) steps → GivesStep read (step_of calls (view v))
    → as_fault (fault_of_step (length steps)) read ≡ Ok step
    → Both (IsStep calls) (map view (take (i + 1) items)) (steps ++ step ∷ [])
steps_more calls items i v steps read step lt is so_far given has =
    let here = step_read (length steps) read (step_of calls (view v)) step given has in
    rw (map_more view items i v lt is) (both_push (IsStep calls) (map view (take i items)) steps (view v) step so_far
    (step_found calls (view v) here.0 step here.1 here.2))

-- the fault of a step that is read is the step's own
own_fault : (index : ℕ) (read : Result Step ScriptFaultAt) (reading : Result StepText ScriptFaultAt)
    (found : ScriptFaultAt) → GivesStep read reading
    → as_fault (fault_of_step index) read ≡ Err found → found.fault ≢ Memory → (own : ScriptFaultAt)
    × HasFault reading own × (found ≡ fault_of_step index own)
own_fault index (Ok step) reading found here is known = absurd cc
own_fault index (Err own) reading found here is known =
    let same : fault_of_step index own ≡ found = cc in
    (own, here (λ memory. known (sym (ap (λ (f : ScriptFaultAt). f.fault) same) ∙ memory)), sym same)

-- one item has a fault
pub first_here : (calls : CallTable) (items : List Value) (i : ℕ) (v : Value) (steps : List Step)
    (read : Result Step ScriptFaultAt) (found : ScriptFaultAt) → i < length items → v ≡ get_or items i v
    → Both (IsStep calls) (map view (take i items)) steps → GivesStep read (step_of calls (view v))
    → as_fault (fault_of_step (length steps)) read ≡ Err found
    → found.fault ≢ Memory → IsFirstOfSteps calls (map view items) found
first_here calls items i v steps read found lt is so_far here has known =
    let own = own_fault (length steps) read (step_of calls (view v)) found here has known in
    record {
      before = map view (take i items);
      item = view v;
      behind = map view (drop (i + 1) items);
      stands = map_parts view items i v lt is;
      steps = steps;
      each = so_far;
      own = own.0;
      has = own.1;
      is = own.2 ∙ ap (λ (index : ℕ). fault_of_step index own.0)
          (length_both (IsStep calls) (map view (take i items)) steps so_far);
    }

sound_step : (calls : CallTable) (item : Data) (step : Step) → IsStep calls item step → IsSoundStep step
sound_step calls item (Call call on_error) is = tt
sound_step calls item (Exit code) is = tt
sound_step calls item (ExitByAttempt codes) is = tt
sound_step calls item (Install filter on_error) is = is.1.spelled.sound

pub sound_steps : (calls : CallTable) (items : List Data) (steps : List Step) → Both (IsStep calls) items steps → HasSoundFilters steps
sound_steps calls [] [] all = tt
sound_steps calls [] (step ∷ steps) all = absurd all
sound_steps calls (item ∷ items) [] all = absurd all
sound_steps calls (item ∷ items) (step ∷ steps) all = (sound_step calls item step all.0, sound_steps calls items steps all.1)
