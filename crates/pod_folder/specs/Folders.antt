-- What is known of a folder's pods, what is asked of the node, and what is known after it: this project's
-- own. docs/SEMANTICS.md, "Pods of a folder".
use Rattle.std.specs.Prelude.{◌≡◌, ◌<◌, ℕ, ◌||◌, not, Bool, true, false, List, [], ◌∷◌, ◌++◌}
use Rattle.std.specs.Prelude.{Option}
use Rattle.std.specs.Prelude.{Some, None, position, slice_get, slice_set, Contains, ⊤}
use Rattle.std.specs.Prelude.{if◌then◌else◌}
use Rattle.std.specs.List.{remove}
use Rattle.std.specs.Str.{bytes_eq}
use Rattle.manifest.specs.Texts.{is_uid}
use Rattle.manifest.specs.declared.pods.Pod.{Pod}
use Rattle.worker_core.specs.declared.answers.NodeRefusal.{NodeRefusal}
use Rattle.worker_core.specs.declared.answers.NodeRefusal.TheVariants.{Full, KnownUid}
use Rattle.worker_core.specs.declared.events.AgentEvent.TheVariants as event
use Rattle.pod_folder.specs.declared.asking.Asked.{Asked}
use Rattle.pod_folder.specs.declared.asking.Asked.TheVariants.{Nothing, Delete, Admit}
use Rattle.pod_folder.specs.declared.asking.Due.{Due}
use Rattle.pod_folder.specs.declared.asking.Due.TheVariants.{Event, Idle, Unnamed}
use Rattle.pod_folder.specs.declared.looks.Manifest.{Manifest}
use Rattle.pod_folder.specs.Looks.{Found}
use Rattle.pod_folder.specs.Naming.{Names, counted_in, known_in, next_place}
use Rattle.pod_folder.specs.Placing.{Leaves, NoneLeaves, Placed, comes, place_of_pod}
use Rattle.pod_folder.specs.Uids.{uid_text}

-- the uid of a file's pod
abbrev pub uid_in : Names → Manifest → List ℕ
uid_in names manifest = if manifest.gives_uid then manifest.pod.uid
    else uid_text manifest.pod (next_place names.counts manifest.pod) names.run

abbrev pub with_uid : Pod → List ℕ → Pod
with_uid pod uid = record pod { uid = uid }

-- a pod that was just admitted for a file
abbrev pub placed_as : List ℕ → List ℕ → Manifest → Placed
placed_as name uid manifest =
    record { name = name; uid = uid; manifest = manifest; leaving = false; lost = false }

-- what is known of a folder: what the last whole look found, the pods that are on the node, how many pods had
-- each name, whether the node is full, and what was asked of it last
pub record Folders : Type 0 where
  pub found : List Found
  pub placed : List Placed
  pub names : Names
  pub full : Bool
  pub asked : Asked

-- a folder that was not looked into yet
abbrev pub fresh : Names → Folders
fresh names = record { found = []; placed = []; names = names; full = false; asked = Nothing }

-- after a whole look
abbrev pub looked : Folders → List Found → Folders
looked old found = record old { found = found }

-- after something was asked of the node, with these names
abbrev pub asking : Folders → Names → Asked → Folders
asking old names asked = record old { names = names; asked = asked }

abbrev pub with_known : Names → Manifest → Names
with_known names manifest = record names { counts = known_in names.counts manifest.pod }

abbrev pub with_count : Names → Manifest → Names
with_count names manifest = if manifest.gives_uid then names
    else record names { counts = counted_in names.counts manifest.pod }

-- the list with f applied to the element at this place, if there is one
abbrev pub changed_to : {A : Type 0} → (A → A) → List A → ℕ → Option A → List A
changed_to f xs place None = xs
changed_to f xs place (Some x) = slice_set xs place (f x)

abbrev pub changed : {A : Type 0} → (A → A) → List A → Option ℕ → List A
changed f xs None = xs
changed f xs (Some place) = changed_to f xs place (slice_get xs place)

abbrev pub tried : Found → Found
tried file = record file { tried = true }

abbrev pub leaving : Placed → Placed
leaving pod = record pod { leaving = true }

abbrev pub lost : Placed → Placed
lost pod = record pod { lost = true }

-- the file at this place is not asked for again
abbrev pub with_tried : Folders → Option ℕ → Folders
with_tried old place = record old { found = changed tried old.found place; asked = Nothing }

-- the place of the file of a name
abbrev pub place_of_file : List ℕ → List Found → Option ℕ
place_of_file name found = position (λ f. bytes_eq f.name name) found

-- the node admitted the pod: it is on the node, and its uid is taken
abbrev pub admitted : Folders → Placed → Folders
admitted old pod = record old {
  placed = old.placed ++ pod ∷ [];
  names = with_count old.names pod.manifest;
  asked = Nothing;
}

-- a file whose pod the node refused is not asked for again, unless there may be room later, or another uid
-- can be tried
abbrev pub gives_up : Placed → NodeRefusal → Bool
gives_up pod Full = false
gives_up pod KnownUid = pod.manifest.gives_uid
gives_up pod other = true

abbrev pub is_full : NodeRefusal → Bool
is_full Full = true
is_full other = false

-- another pod has the uid, so the next one of the name is tried
abbrev pub counts_on : Placed → NodeRefusal → Bool
counts_on pod KnownUid = not pod.manifest.gives_uid
counts_on pod other = false

-- the file whose refusal is reported to the operator
abbrev pub told_of : Asked → NodeRefusal → Option (List ℕ)
told_of Nothing refusal = None
told_of (Delete uid) refusal = None
told_of (Admit pod) refusal = if counts_on pod refusal then None else Some pod.name

abbrev pub found_refused : List Found → Placed → NodeRefusal → List Found
found_refused found pod refusal =
    if gives_up pod refusal then changed tried found (place_of_file pod.name found) else found

abbrev pub names_refused : Names → Placed → NodeRefusal → Names
names_refused names pod refusal = if counts_on pod refusal
    then record names { counts = counted_in names.counts pod.manifest.pod } else names

-- the node refused the pod: if it is full, no other is asked for before a pod has left
abbrev pub refused : Folders → Placed → NodeRefusal → Folders
refused old pod refusal = record old {
  found = found_refused old.found pod refusal;
  names = names_refused old.names pod refusal;
  full = old.full || is_full refusal;
  asked = Nothing;
}

abbrev pub after_admission : Folders → Placed → Option NodeRefusal → Folders
after_admission old pod None = admitted old pod
after_admission old pod (Some refusal) = refused old pod refusal

abbrev pub after_deletion : Folders → List ℕ → Folders
after_deletion old uid =
    record old { placed = changed leaving old.placed (place_of_pod uid old.placed); asked = Nothing }

abbrev pub after_asked : Folders → Asked → Option NodeRefusal → Folders
after_asked old Nothing refusal = old
after_asked old (Delete uid) refusal = after_deletion old uid
after_asked old (Admit pod) refusal = after_admission old pod refusal

-- the event that was asked for last became an entry, and the node refused it for this reason, if it did
abbrev pub recorded : Folders → Option NodeRefusal → Folders
recorded old refusal = after_asked old old.asked refusal

-- a pod that the runtime has lost goes on under another uid, unless its manifest sets the uid
abbrev pub may_move : Option Placed → Bool
may_move None = false
may_move (Some pod) = not pod.manifest.gives_uid

abbrev pub placed_at : List Placed → Option ℕ → Option Placed
placed_at placed None = None
placed_at placed (Some place) = slice_get placed place

abbrev pub moves : Folders → List ℕ → Bool
moves old uid = may_move (placed_at old.placed (place_of_pod uid old.placed))

-- the runtime has lost the pod of a uid
abbrev pub after_loss : Folders → List ℕ → Folders
after_loss old uid = if moves old uid
    then record old { placed = changed lost old.placed (place_of_pod uid old.placed) } else old

-- the pod that a file asks for, under its uid, and how it is remembered; or no uid can be made for it
abbrev pub IsAdmission : Names → List ℕ → Option Manifest → Option (Pod × Placed) → Type 0
IsAdmission names name None made = ⊥
IsAdmission names name (Some manifest) (Some (pod, asked)) =
    (pod ≡ with_uid manifest.pod (uid_in names manifest))
    × (asked ≡ placed_as name (uid_in names manifest) manifest)
IsAdmission names name (Some manifest) None = is_uid (uid_in names manifest) ≡ false

-- the place of the first file whose pod is due for admission
abbrev pub first_to_come : Folders → Option ℕ
first_to_come old = if old.full then None else position (comes old.placed) old.found

abbrev pub file_at : List Found → Option ℕ → Option Found
file_at found None = None
file_at found (Some place) = slice_get found place

-- the node is asked to admit this pod: the one that the file asks for, under its uid
abbrev pub AdmitsAs : Folders → List ℕ → Option Manifest → Pod → Folders → Type 0
AdmitsAs old name None pod new = ⊥
AdmitsAs old name (Some manifest) pod new =
    (pod ≡ with_uid manifest.pod (uid_in old.names manifest))
    × (new ≡ asking old (with_known old.names manifest)
    (Admit (placed_as name (uid_in old.names manifest) manifest)))

abbrev pub Admits : Folders → Option Found → Pod → Folders → Type 0
Admits old None pod new = ⊥
Admits old (Some file) pod new = AdmitsAs old file.name file.asks pod new

-- no uid can be made for the pod that the file asks for
abbrev pub IsUnnamed : Names → Option Manifest → Type 0
IsUnnamed names None = ⊥
IsUnnamed names (Some manifest) = is_uid (uid_in names manifest) ≡ false

abbrev pub HasNoUid : Folders → Option Found → Type 0
HasNoUid old None = ⊥
HasNoUid old (Some file) = IsUnnamed old.names file.asks

-- what is due, and what is known once it is asked for. Deletions come first; a pod for which no uid can be
-- made is not asked for again
abbrev pub Asks : Folders → Due → Folders → Type 0
Asks old (Event (event.Delete uid)) new = ((pod : Placed) × Contains old.placed pod × Leaves old.found pod
    × (uid ≡ pod.uid)) × (new ≡ asking old old.names (Delete uid))
Asks old (Event (event.Admit pod)) new = NoneLeaves old.found old.placed
    × Admits old (file_at old.found (first_to_come old)) pod new
Asks old (Event other) new = ⊥
Asks old (Unnamed place) new = NoneLeaves old.found old.placed × (first_to_come old ≡ Some place)
    × HasNoUid old (slice_get old.found place) × (new ≡ with_tried old (Some place))
Asks old Idle new = NoneLeaves old.found old.placed × (first_to_come old ≡ None) × (new ≡ old)

-- a pod has left the node: there is room again
abbrev pub left_at : Folders → ℕ → Folders
left_at old place = record old { placed = remove old.placed place; full = false }

abbrev pub is_leaving : Option Placed → Bool
is_leaving None = false
is_leaving (Some pod) = pod.leaving

-- one of the pods whose deletion was recorded has left, or none has
abbrev pub HasLeft : Folders → Folders → Bool → Type 0
HasLeft old new true = (place : ℕ) × (is_leaving (slice_get old.placed place) ≡ true) × (new
    ≡ left_at old place)
HasLeft old new false = new ≡ old

-- there is room for a pod whose admission is asked for
abbrev pub HasRoom : Asked → ℕ → ℕ → Type 0
HasRoom Nothing count room = ⊤
HasRoom (Delete uid) count room = ⊤
HasRoom (Admit pod) count room = count < room
