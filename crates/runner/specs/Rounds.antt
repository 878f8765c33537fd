-- A round of one runner, this project's own: docs/SEMANTICS.md, "Threads".
use Rattle.std.specs.Prelude.{◌≡◌, ◌≢◌, ◌⊎◌, ◌||◌, ◌%◌, ◌<◌, ◌≤◌, ⊤, ℕ, Bool, true, false, List, [], ◌∷◌, Option}
use Rattle.std.specs.Prelude.{Some, None, IsSome, option_map}
use Rattle.runtime_cell.specs.declared.cell.Did.{Did}
use Rattle.runtime_cell.specs.declared.cell.Did.TheVariants.{Idle, Performed, Denied, Ended}
use Rattle.bpf_code.specs.declared.insn.Insn.{Insn}
use Rattle.runtime_history.specs.declared.event.Event.{Event}
use Rattle.runtime_history.specs.declared.event.Event.TheVariants.{Stepped}
use Rattle.runtime_history.specs.declared.event.Seen.{Seen}
use Rattle.runtime_history.specs.History.{GoesOn, Grows, Looks, RunsAfter}
use Rattle.runner.specs.declared.rounds.Visit.{Visit}

-- the id above which a visit was asked for, and its result: none if no cell of the share was found; and what
-- the runner had seen of the history before and after
pub record Asked : Type 0 where
  pub above : ℕ
  pub visit : Option Visit
  pub old : Seen
  pub new : Seen

-- whether the cell's script went on
abbrev pub moves_on : Option Did → Bool
moves_on None = false
moves_on (Some Idle) = false
moves_on (Some Performed) = true
moves_on (Some (Denied verdict)) = true
moves_on (Some (Ended code)) = true

-- The step of the cell with the id is the next event that the runner adds to the history. It is missing only
-- if the runner sees all of the history, and no cell with the id runs.
abbrev pub StepsAt : Option (List Insn) → ℕ → Option Did → Seen → Seen → Type 0
StepsAt baseline id None old new = Looks baseline old (λ running. running ≢ id) new
StepsAt baseline id (Some did) old new = Grows baseline old (Stepped id did) new

-- the step of a visit
abbrev pub WasStepped : Option (List Insn) → Option Visit → Seen → Seen → Type 0
WasStepped baseline None old new = new ≡ old
WasStepped baseline (Some visit) old new = (did : Option Did) × StepsAt baseline visit.id did old new
    × (visit.went_on ≡ moves_on did)

abbrev pub id_in : Option Visit → Option ℕ
id_in visit = option_map (λ (v : Visit). v.id) visit

-- the visited id is of the share, and above the given one
abbrev pub IsOwn : ℕ → ℕ → ℕ → Option ℕ → Type 0
IsOwn runner runners above None = ⊤
IsOwn runner runners above (Some visited) = (above < visited) × (visited % runners ≡ runner)

-- an id of the share above the given one is not below the visited one
abbrev pub IsNotPassed : ℕ → ℕ → ℕ → Option ℕ → ℕ → Type 0
IsNotPassed runner runners above None id = above < id → id % runners ≡ runner → ⊥
IsNotPassed runner runners above (Some visited) id = above < id → id % runners ≡ runner → visited ≤ id

-- Asked for a cell above an id, the runner sees all of the history, and visits a cell of its share. It skips
-- no cell of the share that runs then, and if it visits none, none runs. The visited cell does a step.
pub record MayVisit (baseline : Option (List Insn)) (runner runners : ℕ) (asked : Asked) : Type 0 where
  pub own : IsOwn runner runners asked.above (id_in asked.visit)
  pub looked : Seen
  pub looks : Looks baseline asked.old (IsNotPassed runner runners asked.above (id_in asked.visit)) looked
  pub steps : WasStepped baseline asked.visit looked asked.new

-- the id of the last visit, 0 for none; the latest is the first in the list
abbrev pub id_of : Option Visit → ℕ
id_of None = 0
id_of (Some visit) = visit.id

abbrev pub last_of : List Asked → ℕ
last_of [] = 0
last_of (asked ∷ earlier) = id_of asked.visit

-- whether a cell went on
abbrev pub went : Option Visit → Bool
went None = false
went (Some visit) = visit.went_on

abbrev pub went_on : List Asked → Bool
went_on [] = false
went_on (asked ∷ earlier) = went_on earlier || went asked.visit

-- what the runner has seen after these, starting with what it had seen at the start
abbrev pub seen_after : Seen → List Asked → Seen
seen_after start [] = start
seen_after start (asked ∷ earlier) = asked.new

-- each is a visit, asked for above the id of the one before, and after it in the history
abbrev pub AreVisits : Option (List Insn) → ℕ → ℕ → Seen → List Asked → Type 0
AreVisits baseline runner runners start [] = ⊤
AreVisits baseline runner runners start (asked ∷ earlier) =
    IsSome asked.visit × (asked.above ≡ last_of earlier) × (asked.old ≡ seen_after start earlier)
    × MayVisit baseline runner runners asked × AreVisits baseline runner runners start earlier

-- the cell with the id runs after each event from one time to another
abbrev pub RunsThroughout : Option (List Insn) → List Event → List Event → ℕ → Type 0
RunsThroughout baseline from to id = (events : List Event) → GoesOn from events → GoesOn events to
    → RunsAfter baseline events id

-- a visit's step of the cell with the id is the runner's next event
pub record Stepping (baseline : Option (List Insn)) (id : ℕ) (asked : Asked) : Type 0 where
  pub before : Seen
  pub sees : GoesOn asked.old.all before.all
  pub own : before.own ≡ asked.old.own
  pub did : Did
  pub grows : Grows baseline before (Stepped id did) asked.new

abbrev pub IsStepped : Option (List Insn) → ℕ → List Asked → Type 0
IsStepped baseline id [] = ⊥
IsStepped baseline id (asked ∷ earlier) = Stepping baseline id asked ⊎ IsStepped baseline id earlier

-- A round asks for visits until there is none above the last one. The runner adds to the history what they
-- did, and nothing else. Each cell of its share that runs during the whole round does a step.
pub record IsRound (baseline : Option (List Insn)) (runner runners : ℕ) (start : Seen) (asked : List Asked)
    (told : Bool) (seen : Seen) : Type 0 where
  pub end : Asked
  pub visits : List Asked
  pub all : asked ≡ end ∷ visits
  pub none : end.visit ≡ None
  pub behind : end.above ≡ last_of visits
  pub begins : end.old ≡ seen_after start visits
  pub ends : MayVisit baseline runner runners end
  pub are : AreVisits baseline runner runners start visits
  pub sees : seen ≡ end.new
  pub tells : told ≡ went_on visits
  pub each : (id : ℕ) → 0 < id → id % runners ≡ runner → RunsThroughout baseline start.all seen.all id
      → IsStepped baseline id visits
