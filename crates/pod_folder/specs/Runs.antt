-- The events of a folder's pods, and what is true after each of them: this project's own. docs/SEMANTICS.md,
-- "Pods of a folder".
use Rattle.std.specs.Prelude.{◌≡◌, ◌⊎◌, ℕ, true, List, [], ◌∷◌, Option}
use Rattle.worker_core.specs.declared.answers.NodeRefusal.{NodeRefusal}
use Rattle.worker_core.specs.declared.events.AgentEvent.TheVariants as event
use Rattle.pod_folder.specs.declared.asking.Due.{Due}
use Rattle.pod_folder.specs.declared.asking.Due.TheVariants.{Event}
use Rattle.pod_folder.specs.Folders.{Asks, Folders, HasLeft, after_loss, fresh, looked, recorded}
use Rattle.pod_folder.specs.Looks.{Found}
use Rattle.pod_folder.specs.Naming.{Names}
use Rattle.pod_folder.specs.Placing.{LeavesBy, Placed, file_of}

-- a whole look found these files; this was found to be due; what was asked for last was recorded; a pod has
-- left; the runtime has lost the pod of this uid
pub data FolderEvent : Type 0 where
  Looked : List Found → FolderEvent
  Asked : Due → FolderEvent
  Recorded : Option NodeRefusal → FolderEvent
  Left : FolderEvent
  Lost : List ℕ → FolderEvent

abbrev pub FolderStep : Folders → FolderEvent → Folders → Type 0
FolderStep old (Looked found) new = new ≡ looked old found
FolderStep old (Asked due) new = Asks old due new
FolderStep old (Recorded refusal) new = new ≡ recorded old refusal
FolderStep old Left new = HasLeft old new true
FolderStep old (Lost uid) new = new ≡ after_loss old uid

-- these events, the newest first, lead from a folder that was not looked into yet to what is known now
abbrev pub FolderRun : Names → List FolderEvent → Folders → Type 0
FolderRun names [] now = now ≡ fresh names
FolderRun names (event ∷ events) now =
    (before : Folders) × FolderRun names events before × FolderStep before event now

-- what the last whole look found
abbrev pub last_look : List FolderEvent → List Found
last_look [] = []
last_look (Looked found ∷ events) = found
last_look (other ∷ events) = last_look events

-- a pod is deleted only if the last whole look lacked its file or read another pod in it, or the runtime has
-- lost it
abbrev pub DeletesOnlyWhatIsGone : Type 0
DeletesOnlyWhatIsGone = (names : Names) (events : List FolderEvent) (uid : List ℕ) (now : Folders)
    → FolderRun names (Asked (Event (event.Delete uid)) ∷ events) now
    → (pod : Placed) × (pod.uid ≡ uid) × ((pod.lost
    ≡ true) ⊎ LeavesBy (file_of pod.name (last_look events)) pod)
