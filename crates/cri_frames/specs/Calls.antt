-- A call over a wire, this project's own: docs/SEMANTICS.md, "Calls over a wire". Claims about bytes are for
-- wires whose model has them.
use Rattle.std.specs.Prelude.{◌≢◌, ◌⊎◌, ℕ, ◌<◌, List, Option, ⊤, length, take}
use Rattle.std.specs.Io.KnownBytes.{Appends, Consumes, IsAtEnd, Keeps}
use Rattle.cri_msgs.specs.declared.calls.Request.{Request}
use Rattle.cri_msgs.specs.declared.replies.Reply.{Reply}
use Rattle.cri_msgs.specs.declared.version.Version.{Version}
use Rattle.cri_msgs.specs.Replies.{ReadsReply}
use Rattle.cri_msgs.specs.Written.{request_text}
use Rattle.cri_frames.specs.declared.faults.Lost.{Lost}
use Rattle.cri_frames.specs.declared.faults.Lost.TheVariants.{WriteFailed, ReadFailed, Ended, BadFrame}
use Rattle.cri_frames.specs.declared.faults.Lost.TheVariants.{WrongNumber, Memory}
use Rattle.cri_frames.specs.Frames.{IsLength, frame_of}
use Rattle.cri_frames.specs.Received.{HasNoHead, TakesPart}

-- the frame of a request
abbrev pub frame_of_request : Version → Request → List ℕ
frame_of_request version request = frame_of version (request_text version request)

-- one frame was taken, and its text is this reply
pub record TakesReply (version : Version) (old new : Option (List ℕ)) (reply : Reply) : Type 0 where
  pub text : List ℕ
  pub fits : IsLength (length text)
  pub taken : Consumes old new (frame_of version text)
  pub says : ReadsReply version text reply

-- one frame was taken, and its text is no reply
pub record TakesNoReply (version : Version) (old new : Option (List ℕ)) : Type 0 where
  pub text : List ℕ
  pub fits : IsLength (length text)
  pub taken : Consumes old new (frame_of version text)
  pub says_none : (reply : Reply) → ReadsReply version text reply → ⊥

-- one frame was taken, a reply with another number
pub record TakesOther (version : Version) (id : ℕ) (old new : Option (List ℕ)) : Type 0 where
  pub reply : Reply
  pub takes : TakesReply version old new reply
  pub other : reply.id ≢ id

-- what a lost call wrote: all of the request's frame, unless a write failed or memory ran out
abbrev pub Sends : Version → Request → Option (List ℕ) → Option (List ℕ) → Lost → Type 0
Sends version request old new (WriteFailed count) = (count < length (frame_of_request version request))
    × Appends old new (take count (frame_of_request version request))
Sends version request old new ReadFailed = Appends old new (frame_of_request version request)
Sends version request old new Ended = Appends old new (frame_of_request version request)
Sends version request old new BadFrame = Appends old new (frame_of_request version request)
Sends version request old new WrongNumber = Appends old new (frame_of_request version request)
Sends version request old new Memory = Keeps old new ⊎ Appends old new (frame_of_request version request)

-- what a lost call took
abbrev pub Takes : Version → ℕ → Option (List ℕ) → Option (List ℕ) → Lost → Type 0
Takes version id old new (WriteFailed count) = Keeps old new
Takes version id old new ReadFailed = TakesPart version old new
Takes version id old new Ended = TakesPart version old new × IsAtEnd new
Takes version id old new BadFrame = HasNoHead version old new ⊎ TakesNoReply version old new
Takes version id old new WrongNumber = TakesOther version id old new
Takes version id old new Memory = ⊤

-- the wire's fault
abbrev pub IsOfWire : Lost → Type 0
IsOfWire (WriteFailed count) = ⊤
IsOfWire ReadFailed = ⊤
IsOfWire Ended = ⊥
IsOfWire BadFrame = ⊥
IsOfWire WrongNumber = ⊥
IsOfWire Memory = ⊥
