-- What is known of a folder's files is what the last whole look found.
use Rattle.std.proofs.Common.{◌≡◌, inl, inr, ℕ, Bool, true, false, List, [], ◌∷◌, Option, Some, None}
use Rattle.std.proofs.Common.{suc, zero}
use Rattle.std.proofs.Common.{refl, sym, ap, subst, ◌∙◌, slice_get, if◌then◌else◌, map, arith}
use Rattle.std.specs.Option.{option_map}
use Rattle.manifest.specs.declared.pods.Pod.{Pod}
use Rattle.worker_core.specs.declared.answers.NodeRefusal.{NodeRefusal}
use Rattle.worker_core.specs.declared.events.AgentEvent.TheVariants as event
use Rattle.pod_folder.specs.declared.asking.Asked.{Asked}
use Rattle.pod_folder.specs.declared.asking.Asked.TheVariants as asked
use Rattle.pod_folder.specs.declared.asking.Due.{Due}
use Rattle.pod_folder.specs.declared.asking.Due.TheVariants.{Event, Idle, Unnamed}
use Rattle.pod_folder.specs.declared.looks.Manifest.{Manifest}
use Rattle.pod_folder.specs.Folders.{Admits, AdmitsAs, Asks, Folders, after_asked}
use Rattle.pod_folder.specs.Folders.{changed}
use Rattle.pod_folder.specs.Folders.{changed_to, file_at, first_to_come, gives_up, moves}
use Rattle.pod_folder.specs.Folders.{place_of_file, tried}
use Rattle.pod_folder.specs.Looks.{Found}
use Rattle.pod_folder.specs.Naming.{Names}
use Rattle.pod_folder.specs.Placing.{LeavesBy, Placed, file_of}
use Rattle.pod_folder.specs.Runs.{DeletesOnlyWhatIsGone, FolderEvent, FolderRun, FolderStep, last_look}
use Rattle.pod_folder.specs.Runs.FolderEvent.{Looked, Asked as WasAsked, Recorded, Left, Lost}

-- a file without the mark that its pod is not asked for again
abbrev plain : Found → Found
plain file = record file { tried = false }

-- the same files, except for that mark
abbrev Same : List Found → List Found → Type 0
Same xs ys = map plain xs ≡ map plain ys

changed_behind : (x : Found) (xs : List Found) (place : ℕ) (o : Option Found)
    → changed_to tried (x ∷ xs) (suc place) o ≡ x ∷ changed_to tried xs place o
changed_behind x xs place None = refl
changed_behind x xs place (Some y) = refl

tried_at : (xs : List Found) (place : ℕ) → Same (changed_to tried xs place (slice_get xs place)) xs
tried_at [] place = refl
tried_at (x ∷ xs) zero = refl
tried_at (x ∷ xs) (suc place) = ap (map plain) (changed_behind x xs place (slice_get xs place))
    ∙ (λ i. plain x ∷ tried_at xs place i)

changed_same : (xs : List Found) (place : Option ℕ) → Same (changed tried xs place) xs
changed_same xs None = refl
changed_same xs (Some place) = tried_at xs place

if_same : (b : Bool) (xs ys : List Found) → Same xs ys → Same (if b then xs else ys) ys
if_same true xs ys same = same
if_same false xs ys same = refl

loss_same : (b : Bool) (old new : Folders) → new.found ≡ old.found
    → Same (if b then new else old).found old.found
loss_same true old new same = ap (map plain) same
loss_same false old new same = refl

asked_same : (old : Folders) (asked : Asked) (refusal : Option NodeRefusal)
    → Same (after_asked old asked refusal).found old.found
asked_same old asked.Nothing refusal = refl
asked_same old (asked.Delete uid) refusal = refl
asked_same old (asked.Admit pod) None = refl
asked_same old (asked.Admit pod) (Some refusal) =
    if_same (gives_up pod refusal) _ old.found (changed_same old.found (place_of_file pod.name old.found))

found_same : (new other : Folders) → new ≡ other → Same new.found other.found
found_same new other is = ap (λ (s : Folders). map plain s.found) is

admits_as_same : (old new : Folders) (name : List ℕ) (asks : Option Manifest) (pod : Pod)
    → AdmitsAs old name asks pod new → Same new.found old.found
admits_as_same old new name None pod is = elim is [ ]
admits_as_same old new name (Some manifest) pod is = found_same new _ is.1

admits_same : (old new : Folders) (file : Option Found) (pod : Pod) → Admits old file pod new
    → Same new.found old.found
admits_same old new None pod is = elim is [ ]
admits_same old new (Some file) pod is = admits_as_same old new file.name file.asks pod is

due_same : (old new : Folders) (due : Due) → Asks old due new → Same new.found old.found
due_same old new (Event (event.Delete uid)) is = found_same new _ is.1
due_same old new (Event (event.Admit pod)) is =
    admits_same old new (file_at old.found (first_to_come old)) pod is.1
due_same old new (Event (event.Claim worker)) is = elim is [ ]
due_same old new (Event (event.Report worker reported)) is = elim is [ ]
due_same old new (Event (event.Tick now)) is = elim is [ ]
due_same old new (Event (event.Abandon worker)) is = elim is [ ]
due_same old new (Unnamed place) is = found_same new _ is.3 ∙ changed_same old.found (Some place)
due_same old new Idle is = found_same new _ is.2

step_same : (old new : Folders) (events : List FolderEvent) (event : FolderEvent)
    → Same old.found (last_look events) → FolderStep old event new
    → Same new.found (last_look (event ∷ events))
step_same old new events (Looked found) same is = found_same new _ is
step_same old new events (WasAsked due) same is = due_same old new due is ∙ same
step_same old new events (Recorded refusal) same is =
    found_same new _ is ∙ asked_same old old.asked refusal ∙ same
step_same old new events Left same is = found_same new _ is.2 ∙ same
step_same old new events (Lost uid) same is = found_same new _ is ∙ loss_same (moves old uid) old _ refl
    ∙ same

run_same : (names : Names) (events : List FolderEvent) (now : Folders) → FolderRun names events now
    → Same now.found (last_look events)
run_same names [] now run = found_same now _ run
run_same names (event ∷ events) now run =
    step_same run.0 now events event (run_same names events run.0 run.1) run.2

find_plain : (name : List ℕ) (xs : List Found) → option_map plain (file_of name xs)
    ≡ file_of name (map plain xs)
find_plain name [] = refl
find_plain name (x ∷ xs) = grind (arith, find_plain name xs)

to_plain : (file : Option Found) (pod : Placed) → LeavesBy file pod → LeavesBy (option_map plain file) pod
to_plain None pod leaves = tt
to_plain (Some file) pod leaves = leaves

from_plain : (file : Option Found) (pod : Placed) → LeavesBy (option_map plain file) pod → LeavesBy file pod
from_plain None pod leaves = tt
from_plain (Some file) pod leaves = leaves

leaves_same : (pod : Placed) (xs ys : List Found) → Same xs ys → LeavesBy (file_of pod.name xs) pod
    → LeavesBy (file_of pod.name ys) pod
leaves_same pod xs ys same leaves = from_plain (file_of pod.name ys) pod
    (subst (λ file. LeavesBy file pod)
    (find_plain pod.name xs ∙ ap (file_of pod.name) same ∙ sym (find_plain pod.name ys))
    (to_plain (file_of pod.name xs) pod leaves))

pub only_what_is_gone : DeletesOnlyWhatIsGone
only_what_is_gone names events uid now run =
    let found : _ = run.2.0 in (
      found.0,
      sym found.3,
      elim found.2.1 [
        | inl lost ↦ inl lost
        | inr leaves ↦ inr (leaves_same found.0 run.0.found (last_look events)
            (run_same names events run.0 run.1) leaves)
      ],
    )
