-- The pods of a node as its agent holds them, with who holds which: this project's own. docs/SEMANTICS.md,
-- "The agent: the node".
use Rattle.std.specs.Prelude.{◌≡◌, ℕ, ◌+◌, ◌≤◌, ◌==◌, Bool, true, false, if◌then◌else◌, List, [], ◌∷◌, Option}
use Rattle.std.specs.Prelude.{Some, None, slice_get, slice_set, position}
use Rattle.std.specs.List.{list_all, list_any, remove}
use Rattle.std.specs.Str.{bytes_eq}
use Rattle.lifecycle.specs.declared.phases.Phase.{Phase}
use Rattle.lifecycle.specs.declared.phases.Phase.TheVariants as phase
use Rattle.manifest.specs.declared.pods.Pod.{Pod}
use Rattle.cri_msgs.specs.declared.calls.Request.{Request}
use Rattle.worker_pod.specs.declared.settings.Outcome.{Outcome}
use Rattle.worker_pod.specs.declared.settings.Outcome.TheVariants as outcome
use Rattle.worker_pod.specs.declared.settings.Settings.{Settings}
use Rattle.worker_pod.specs.Next.{due_of, is_gone, phase_in}
use Rattle.worker_pod.specs.Past.{Kept, after, start, with_deleted}
use Rattle.worker_pod.specs.Tracks.{AllWithin}
use Rattle.worker_core.specs.declared.events.Reported.{Reported}
use Rattle.worker_core.specs.declared.events.Reported.TheVariants.{Replied, Lost}
use Rattle.worker_core.specs.declared.slots.Held.{Held}
use Rattle.worker_core.specs.declared.slots.Slot.{Slot}

-- a pod that was just admitted
abbrev pub fresh_slot : Pod → Settings → Slot
fresh_slot pod settings = record { state = start pod settings; held = None }

-- how a claim ends, by the report of its worker
abbrev pub outcome_of : Reported → Outcome
outcome_of (Replied reply) = outcome.Replied reply
outcome_of Lost = outcome.Lost

abbrev pub is_free : Option Held → Bool
is_free None = true
is_free (Some held) = false

-- how many pods are held
abbrev pub held_in : List Slot → ℕ
held_in [] = 0
held_in (slot ∷ slots) = (if is_free slot.held then 0 else 1) + held_in slots

abbrev pub is_held_by : ℕ → Option Held → Bool
is_held_by worker None = false
is_held_by worker (Some held) = held.worker == worker

-- the place of the pod that this worker holds
abbrev pub holder_of : ℕ → List Slot → Option ℕ
holder_of worker slots = position (λ s. is_held_by worker s.held) slots

-- the request by which a pod is held
abbrev pub request_of : Option Held → Option Request
request_of None = None
request_of (Some held) = Some held.request

abbrev pub request_in : Option Slot → Option Request
request_in None = None
request_in (Some slot) = request_of slot.held

abbrev pub request_at : List Slot → Option ℕ → Option Request
request_at slots None = None
request_at slots (Some place) = request_in (slice_get slots place)

-- the request that this worker was given, if it holds a pod
abbrev pub claim_of : ℕ → List Slot → Option Request
claim_of worker slots = request_at slots (holder_of worker slots)

-- the place of the pod of this uid
abbrev pub place_of : List ℕ → List Slot → Option ℕ
place_of uid slots = position (λ s. bytes_eq s.state.pod.uid uid) slots

abbrev pub slot_at : List Slot → Option ℕ → Option Slot
slot_at slots None = None
slot_at slots (Some place) = slice_get slots place

-- the pod of this uid
abbrev pub slot_of : List ℕ → List Slot → Option Slot
slot_of uid slots = slot_at slots (place_of uid slots)

-- a pod in this phase stays in it
abbrev pub is_final : Phase → Bool
is_final phase.Succeeded = true
is_final phase.Failed = true
is_final phase.Pending = false
is_final phase.Running = false
is_final phase.Unknown = false

abbrev pub is_failed : Phase → Bool
is_failed phase.Failed = true
is_failed phase.Pending = false
is_failed phase.Running = false
is_failed phase.Succeeded = false
is_failed phase.Unknown = false

-- each pod is Succeeded or Failed
abbrev pub is_settled : List Slot → Bool
is_settled slots = list_all (λ slot. is_final (phase_in slot.state)) slots

-- a pod is Failed
abbrev pub has_failed : List Slot → Bool
has_failed slots = list_any (λ slot. is_failed (phase_in slot.state)) slots

-- the moment from which a request is due that a worker can be given: nobody holds the pod
abbrev pub free_due : Slot → Option ℕ
free_due slot = if is_free slot.held then due_of slot.state else None

-- the list with f applied to the element at this place, if there is one
abbrev pub changed_to : {A : Type 0} → (A → A) → List A → ℕ → Option A → List A
changed_to f xs place None = xs
changed_to f xs place (Some x) = slice_set xs place (f x)

abbrev pub changed : {A : Type 0} → (A → A) → List A → ℕ → List A
changed f xs place = changed_to f xs place (slice_get xs place)

abbrev pub deleted : Slot → Slot
deleted slot = record { state = with_deleted slot.state true; held = slot.held }

-- the worker's claim of the pod
abbrev pub claimed_by : Held → Slot → Slot
claimed_by held slot = record { state = slot.state; held = Some held }

abbrev pub state_ended : ℕ → Outcome → Kept → Option Held → Kept
state_ended now how kept None = kept
state_ended now how kept (Some held) = after now held.request how kept

-- the claim of the pod ends
abbrev pub ended : ℕ → Outcome → Slot → Slot
ended now how slot = record { state = state_ended now how slot.state slot.held; held = None }

abbrev pub is_gone_slot : Option Slot → Bool
is_gone_slot None = false
is_gone_slot (Some slot) = is_gone slot.state.sandbox

-- a pod whose removal was answered leaves
abbrev pub left : List Slot → ℕ → List Slot
left slots place = if is_gone_slot (slice_get slots place) then remove slots place else slots

abbrev pub ended_at : ℕ → Outcome → List Slot → ℕ → List Slot
ended_at now how slots place = left (changed (ended now how) slots place) place

-- no claim ended later
abbrev pub AllEndedBy : ℕ → List Slot → Type 0
AllEndedBy now slots = (at : ℕ) (slot : Slot) → slice_get slots at ≡ Some slot → slot.state.latest ≤ now

-- At most this many runs of each of its containers began, or may yet begin by the claim of the pod.
pub record IsCounted (number : ℕ) (slot : Slot) : Type 0 where
  pub most : ℕ
  pub begun : AllWithin most slot.state.tracks
  pub few : most + (if is_free slot.held then 0 else 1) ≤ number

-- the same for each pod, after this many claims: each begins at most one run of a container
abbrev pub AllCounted : ℕ → List Slot → Type 0
AllCounted number slots = (at : ℕ) (slot : Slot) → slice_get slots at ≡ Some slot → IsCounted number slot
