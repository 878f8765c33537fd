-- Serving a connection, this project's own: docs/SEMANTICS.md, "Serving a connection". Statements about bytes
-- apply to wires that show their bytes.
use Rattle.std.specs.Prelude.{◌≡◌, ◌⊎◌, ℕ, List, [], ◌∷◌, ◌++◌, map, Option, Result}
use Rattle.std.specs.List.{AllByRecursion, flat_map}
use Rattle.std.specs.Io.KnownBytes.{Appends, Consumes, IsAtEnd}
use Rattle.node_io.specs.declared.faults.FileFault.{FileFault}
use Rattle.cri_msgs.specs.declared.calls.Request.{Request}
use Rattle.cri_msgs.specs.declared.refusals.Refusal.TheVariants.{InvalidArgument}
use Rattle.cri_msgs.specs.declared.replies.Answer.TheVariants.{Refused}
use Rattle.cri_msgs.specs.declared.replies.Reply.{Reply}
use Rattle.cri_msgs.specs.Requests.{ReadsRequest, number_of}
use Rattle.cri_msgs.specs.Written.{reply_text}
use Rattle.cri_frames.specs.Frames.{BeginsNone, IsBad, frame_of}
use Rattle.cri_frames.specs.Streams.{Frame, IsFrame, stream_of}
use Rattle.creation.specs.Made.{FileText}
use Rattle.creation.specs.declared.files.FileAnswers.{FileAnswers}
use Rattle.runner.specs.declared.ending.Ending.{Ending}
use Rattle.runner.specs.declared.ending.Ending.TheVariants.{Ended, BadLength, Failed, Memory}
use Rattle.runner.specs.declared.service.Service.{Service}
use Rattle.runner.specs.Gathered.{profile_path, script_path}

-- a frame that came, and the reply to it
pub record Exchange : Type 0 where
  pub frame : Frame
  pub reply : Reply

-- the reply goes in a frame of the version of the frame that came
abbrev pub reply_frame : Exchange → List ℕ
reply_frame e = frame_of e.frame.0 (reply_text e.frame.0 e.reply)

-- the reply to a text that is no request
abbrev pub refusal_of : List ℕ → Reply
refusal_of text = record { id = number_of text; answer = Refused InvalidArgument }

-- the possible results of files for a path, and the files after it
abbrev pub Reads : Type 0 → Type 1
Reads F = F → Option (List ℕ) → Option (Result FileText FileFault) → F → Type 0

-- the possible replies of a host to a request and the results of its files, and the host after it
abbrev pub Replies : Type 0 → Type 1
Replies H = H → Request → FileAnswers → Reply → H → Type 0

-- a request is served: its files are read, then the host replies
pub record IsServed {S P H : Type 0} (Scripts : Reads S) (Profiles : Reads P) (may : Replies H)
    (old : Service S P H) (request : Request) (reply : Reply) (new : Service S P H) : Type 0 where
  pub files : FileAnswers
  pub script : Scripts old.scripts (script_path request.call) files.script new.scripts
  pub profile : Profiles old.profiles (profile_path request.call) files.profile new.profiles
  pub replied : may old.host request files reply new.host

-- the reply to a frame: its text is a request of its version, which is served, or is no request
abbrev pub Answers : {S P H : Type 0} → Reads S → Reads P → Replies H → Service S P H → Exchange
    → Service S P H → Type 0
Answers Scripts Profiles may old e new =
    ((request : Request) × ReadsRequest e.frame.0 e.frame.1 request
    × IsServed Scripts Profiles may old request e.reply new)
    ⊎ (((request : Request) → ReadsRequest e.frame.0 e.frame.1 request → ⊥) × (e.reply ≡ refusal_of e.frame.1)
    × (new ≡ old))

-- one exchange after the other
abbrev pub Follow : {X : Type 0} → (X → Exchange → X → Type 0) → X → List Exchange → X → Type 0
Follow One old [] new = new ≡ old
Follow {X} One old (e ∷ es) new = (mid : X) × One old e mid × Follow One mid es new

-- The bytes that came are whole frames, and a rest after them. Each frame got one reply, in order, and this
-- part of the replies' frames is unwritten.
pub record Talk {X : Type 0} (One : X → Exchange → X → Type 0) (old new : X) (came left unwritten : List ℕ)
    (output output' : Option (List ℕ)) : Type 0 where
  pub exchanges : List Exchange
  pub each : AllByRecursion (λ (e : Exchange). IsFrame e.frame) exchanges
  pub frames : came ≡ stream_of (map (λ (e : Exchange). e.frame) exchanges) left
  pub follow : Follow One old exchanges new
  pub written : List ℕ
  pub replies : flat_map reply_frame exchanges ≡ written ++ unwritten
  pub sent : Appends output output' written

-- all that was read was answered except a rest that begins no whole frame, and all replies were written
pub record WholeTalk {X : Type 0} (One : X → Exchange → X → Type 0) (old new : X)
    (input input' output output' : Option (List ℕ)) (Leaves : List ℕ → Type 0) : Type 0 where
  pub came : List ℕ
  pub left : List ℕ
  pub taken : Consumes input input' came
  pub begins_none : BeginsNone left
  pub leaves : Leaves left
  pub talk : Talk One old new came left [] output output'

-- some of what was read was answered, and a prefix of the replies was written
pub record PartTalk {X : Type 0} (One : X → Exchange → X → Type 0) (old new : X)
    (input input' output output' : Option (List ℕ)) : Type 0 where
  pub came : List ℕ
  pub left : List ℕ
  pub unwritten : List ℕ
  pub taken : Consumes input input' came
  pub talk : Talk One old new came left unwritten output output'

-- how a connection ends
abbrev pub Ends : {X : Type 0} → (X → Exchange → X → Type 0) → X → X → Option (List ℕ) → Option (List ℕ)
    → Option (List ℕ) → Option (List ℕ) → Ending → Type 0
Ends One old new input input' output output' Ended = IsAtEnd input'
    × WholeTalk One old new input input' output output' (λ left. IsBad left → ⊥)
Ends One old new input input' output output' BadLength =
    WholeTalk One old new input input' output output' IsBad
Ends One old new input input' output output' Failed = PartTalk One old new input input' output output'
Ends One old new input input' output output' Memory = PartTalk One old new input input' output output'
