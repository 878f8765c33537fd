-- Laws of every run of the world, whatever is served again, lost, late or never served: this project's own,
-- over the order of init containers and restarts of Kubernetes 1.27, pod lifecycle. docs/SEMANTICS.md, "The
-- world".
use Rattle.std.specs.Prelude.{◌≡◌, ℕ, ◌+◌, ◌<◌, Bool, true, List, Option, Some, slice_get}
use Rattle.bpf_code.specs.declared.insn.Insn.{Insn}
use Rattle.lifecycle.specs.BackOff.{Run}
use Rattle.lifecycle.specs.Restart.{may_restart}
use Rattle.lifecycle.specs.declared.track.Track.{Track}
use Rattle.manifest.specs.declared.containers.Container.{Container}
use Rattle.manifest.specs.declared.pods.Pod.{Pod}
use Rattle.manifest.specs.declared.profiles.SeccompProfile.{SeccompProfile}
use Rattle.profile_pick.specs.Choice.{choice_of}
use Rattle.cri_msgs.specs.declared.calls.Call.TheVariants.{CreateContainer}
use Rattle.cri_msgs.specs.declared.calls.Request.{Request}
use Rattle.cri_msgs.specs.declared.keys.Key.{Key}
use Rattle.cri_msgs.specs.declared.replies.Answer.TheVariants as answers
use Rattle.runtime_cell.specs.Cell.{Cell, Making}
use Rattle.runtime_cell.specs.declared.cell.State.TheVariants.{Exited}
use Rattle.creation.specs.declared.files.FileAnswers.{FileAnswers}
use Rattle.creation.specs.Files.{IsMadeFrom}
use Rattle.runtime_laws.specs.Laws.{IsThere, LinkLaws, RunLaws, Seen}
use Rattle.runtime_laws.specs.Runs.{Link, now}
use Rattle.runtime_laws.specs.Runs.Event.{Served}
use Rattle.registry.specs.Runtime.{In, slot_of}
use Rattle.worker_pod.specs.declared.settings.Settings.{Settings}
use Rattle.worker_pod.specs.Laws.{key_named}
use Rattle.worker_pod.specs.Past.{read_off}
use Rattle.worker_core.specs.Laws.{Admits, Gives, Happened, NodeLaws, NodeLink, NodeLinkLaws, is_init}
use Rattle.worker_core.specs.Laws.{node_now}
use Rattle.worker_core.specs.Nodes.{OnNode}
use Rattle.world.specs.World.{WorldLink, node_link, node_part, runtime_link, runtime_part, world_now}

-- the cell of this attempt ended with this code
pub record EndedWith (ls : List WorldLink) (key : Key) (code : ℕ) : Type 0 where
  pub cell : Cell
  pub seen : Seen (runtime_part ls) key cell
  pub killed : Bool
  pub ended : cell.state ≡ Exited code killed

-- this pod was admitted under the uid, and no other one ever was
pub record IsPodOf (ls : List WorldLink) (uid : List ℕ) (pod : Pod) : Type 0 where
  pub admitted : Happened (Admits pod) (node_part ls)
  pub of_uid : pod.uid ≡ uid
  pub only : (other : Pod) → Happened (Admits other) (node_part ls) → other.uid ≡ uid → other ≡ pod

-- the container of this name, and its place in the manifest, where init containers come first
pub record IsContainer (pod : Pod) (name : List ℕ) (place : ℕ) (container : Container) : Type 0 where
  pub here : slice_get pod.containers.all place ≡ Some container
  pub named : container.name ≡ name

-- the profile that the manifest and the node's default choose for a container
abbrev pub profile_of : Settings → Pod → Container → SeccompProfile
profile_of settings pod container = choice_of pod.profile container settings.seccomp_default

-- A cell follows the manifest of its uid: it was made from the container's image and the profile chosen for
-- it, and from the results of the files at that time. So its filters are the node's own and that of the
-- profile.
pub record IsFromManifest (settings : Settings) (baseline : Option (List Insn)) (ls : List WorldLink)
    (key : Key) (making : Making) : Type 0 where
  pub pod : Pod
  pub is_pod : IsPodOf ls key.uid pod
  pub place : ℕ
  pub container : Container
  pub is_container : IsContainer pod key.container.name place container
  pub files : FileAnswers
  pub id : ℕ
  pub link : Link
  pub among : In link (runtime_part ls)
  pub created : link.event ≡ Served (CreateContainer key container.image (profile_of settings pod container))
      files (answers.Container id)
  pub from : IsMadeFrom baseline id key.container container.image (profile_of settings pod container) files
      making

-- attempt k ended, with a code after which another is allowed
pub record HasEndedBefore (ls : List WorldLink) (pod : Pod) (place : ℕ) (key : Key) (k : ℕ) : Type 0 where
  pub code : ℕ
  pub ended : EndedWith ls (key_named key.uid key.container.name k) code
  pub may : may_restart pod.policy (is_init pod place) code ≡ true

-- some attempt at the container ended with code 0
pub record HasSucceeded (ls : List WorldLink) (uid name : List ℕ) : Type 0 where
  pub attempt : ℕ
  pub ended : EndedWith ls (key_named uid name attempt) 0

-- An attempt comes in its turn: after the end of the attempt before it, and of all init containers, for an
-- init container of those before it.
pub record IsInTurn (ls : List WorldLink) (key : Key) : Type 0 where
  pub pod : Pod
  pub is_pod : IsPodOf ls key.uid pod
  pub place : ℕ
  pub container : Container
  pub is_container : IsContainer pod key.container.name place container
  pub again : (k : ℕ) → key.container.attempt ≡ k + 1 → HasEndedBefore ls pod place key k
  pub inits : (at : ℕ) (other : Container) → slice_get pod.containers.all at ≡ Some other
      → is_init pod at ≡ true
      → (is_init pod place ≡ true → at < place) → HasSucceeded ls key.uid other.name

-- at any moment
pub record WorldLaws (settings : Settings) (baseline : Option (List Insn))
    (ls : List WorldLink) : Type 0 where
  -- The runtime's part is a run of a runtime, and the node's of a node: what a container performs, that its
  -- record follows its script, and who holds which pod.
  pub runtime : RunLaws baseline (runtime_part ls)
  pub runtime_is : now baseline (runtime_part ls) ≡ (world_now settings baseline ls).runtime
  pub node : NodeLaws settings (node_part ls)
  pub node_is : node_now settings (node_part ls) ≡ (world_now settings baseline ls).node
  -- the filters of a cell's start are those that the manifest admitted under its uid asks for
  pub from_manifest : (key : Key) (cell : Cell) → Seen (runtime_part ls) key cell
      → IsFromManifest settings baseline ls key cell.making
  -- the node's run at each place, from 0, of a container is that of the attempt of this number: the attempt's
  -- cell ended with the run's code
  pub codes : (at : ℕ) (p : OnNode) → slice_get (world_now settings baseline ls).node.pods at ≡ Some p
      → (place : ℕ) (track : Track) (container : Container)
      → slice_get (read_off p.past.pod settings p.past.claims).tracks place ≡ Some track
      → slice_get p.past.pod.containers.all place ≡ Some container
      → (k : ℕ) (run : Run) → slice_get track.runs k ≡ Some run
      → EndedWith ls (key_named p.past.pod.uid container.name k) run.code

-- the cell of an attempt is made
pub record MakesCell (l : WorldLink) (key : Key) : Type 0 where
  pub was_not : ¬ IsThere (slot_of l.old.runtime key)
  pub is : IsThere (slot_of l.new.runtime key)

-- at each step
pub record WorldLinkLaws (l : WorldLink) (before : List WorldLink) : Type 0 where
  -- each attempt is made and started once, and a removed sandbox is silent
  pub runtime : (link : Link) → runtime_link l ≡ Some link → LinkLaws link (runtime_part before)
  -- a uid is admitted once, a number is used once, and the back-off is kept
  pub node : (link : NodeLink) → node_link l ≡ Some link → NodeLinkLaws link (node_part before)
  -- an attempt is asked for, and made, after all that had to end first
  pub asked : (link : NodeLink) (worker : ℕ) (uid : List ℕ) (request : Request) → node_link l ≡ Some link
      → Gives worker uid request link
      → (key : Key) (image : List ℕ) (profile : SeccompProfile)
      → request.call ≡ CreateContainer key image profile → IsInTurn before key
  pub made : (key : Key) → MakesCell l key → IsInTurn before key
