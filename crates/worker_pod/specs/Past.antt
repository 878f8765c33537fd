-- What an agent keeps of a pod, read off the whole list of the pod's ended claims: this project's own.
-- docs/SEMANTICS.md, "The agent: one pod". Moments are whole seconds below 2 ^ 64.
use Rattle.std.specs.Prelude.{◌≡◌, ℕ, nat_lt, Bool, true, false, List, [], ◌∷◌, length, map}
use Rattle.std.specs.List.{range_with_len}
use Rattle.lifecycle.specs.BackOff.{later}
use Rattle.lifecycle.specs.declared.track.Track.{Track}
use Rattle.manifest.specs.Containers.{ContainerList}
use Rattle.manifest.specs.declared.pods.Pod.{Pod}
use Rattle.cri_msgs.specs.declared.calls.Request.{Request}
use Rattle.worker_pod.specs.declared.update.StatusUpdate.{StatusUpdate}
use Rattle.worker_pod.specs.declared.update.StatusUpdate.TheVariants as update
use Rattle.worker_pod.specs.declared.sandbox.Sandbox.{Sandbox}
use Rattle.worker_pod.specs.declared.sandbox.Sandbox.TheVariants as sandbox
use Rattle.worker_pod.specs.declared.settings.Outcome.{Outcome}
use Rattle.worker_pod.specs.declared.settings.Settings.{Settings}
use Rattle.worker_pod.specs.declared.settings.TheConstants.{REST}
use Rattle.worker_pod.specs.Updates.{is_lost, told}
use Rattle.worker_pod.specs.Tracks.{fresh, records_in, tracks_after}

pub record Kept : Type 0 where
  pub pod : Pod
  pub settings : Settings
  pub deleted : Bool
  -- the state of the pod's sandbox
  pub sandbox : Sandbox
  -- whether the last claim was lost or abandoned
  pub lost : Bool
  -- no request is due before this moment
  pub rest : ℕ
  -- when the last claim ended
  pub latest : ℕ
  -- the number of the last claim, 0 for none
  pub worked : ℕ
  -- its containers, init ones first
  pub tracks : List Track

abbrev pub sandbox_at : StatusUpdate → Sandbox → Sandbox
sandbox_at update.SandboxReady s = sandbox.Ready
sandbox_at update.SandboxStopped s = sandbox.Stopped
sandbox_at update.SandboxRemoved s = sandbox.Removed
sandbox_at n s = s

-- for ten seconds after a refusal, a loss or an abandoned claim nothing is due
abbrev pub rest_at : ℕ → StatusUpdate → ℕ
rest_at now update.Lost = later now REST
rest_at now update.Refused = later now REST
rest_at now n = 0

-- after the claim of the request has ended, now and with this outcome
abbrev pub after : ℕ → Request → Outcome → Kept → Kept
after now request how kept = record {
  pod = kept.pod;
  settings = kept.settings;
  deleted = kept.deleted;
  sandbox = sandbox_at (told request how) kept.sandbox;
  lost = is_lost (told request how);
  rest = rest_at now (told request how);
  latest = now;
  worked = request.id;
  tracks = tracks_after now request how kept.pod.containers.all kept.tracks;
}

-- whether the exit of one of its containers is recorded then
abbrev pub records_exit : ℕ → Request → Outcome → Kept → Bool
records_exit now request how kept = records_in now request how kept.pod.containers.all kept.tracks

-- nothing was reported of its containers, the first of which are the init ones
abbrev pub fresh_tracks : ContainerList → List Track
fresh_tracks c = map (λ place. fresh (nat_lt place c.inits)) (range_with_len 0 (length c.all))

-- a pod without claims
abbrev pub start : Pod → Settings → Kept
start pod settings = record {
  pod = pod;
  settings = settings;
  deleted = false;
  sandbox = sandbox.Absent;
  lost = false;
  rest = 0;
  latest = 0;
  worked = 0;
  tracks = fresh_tracks pod.containers;
}

-- a claim that ended, when it did, and how
pub record Claimed : Type 0 where
  pub moment : ℕ
  pub request : Request
  pub outcome : Outcome

-- a pod on a node: whether it was deleted, and all its claims that ended, the newest first
pub record Past : Type 0 where
  pub pod : Pod
  pub deleted : Bool
  pub claims : List Claimed

abbrev pub admitted : Pod → Past
admitted pod = record { pod = pod; deleted = false; claims = [] }

abbrev pub with_claim : Past → Claimed → Past
with_claim past c = record { pod = past.pod; deleted = past.deleted; claims = c ∷ past.claims }

abbrev pub as_deleted : Past → Past
as_deleted past = record { pod = past.pod; deleted = true; claims = past.claims }

-- the state that follows from the claims
abbrev pub read_off : Pod → Settings → List Claimed → Kept
read_off pod settings [] = start pod settings
read_off pod settings (c ∷ cs) = after c.moment c.request c.outcome (read_off pod settings cs)

abbrev pub with_deleted : Kept → Bool → Kept
with_deleted kept deleted = record {
  pod = kept.pod;
  settings = kept.settings;
  deleted = deleted;
  sandbox = kept.sandbox;
  lost = kept.lost;
  rest = kept.rest;
  latest = kept.latest;
  worked = kept.worked;
  tracks = kept.tracks;
}

abbrev pub held_of : Settings → Past → Kept
held_of settings past = with_deleted (read_off past.pod settings past.claims) past.deleted

-- the kept state is the one that follows from the pod's past
abbrev pub StandsFor : Kept → Past → Type 0
StandsFor kept past = kept ≡ held_of kept.settings past
