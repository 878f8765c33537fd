-- Why a step of a call over a wire failed, which private functions cite.
use Rattle.std.specs.Prelude.{◌≢◌, ℕ, ◌<◌, List, Option, ⊤, length, take}
use Rattle.std.specs.Io.KnownBytes.{Appends, Consumes, IsAtEnd, Keeps}
use Rattle.node_io.specs.Counts.{HasRisen}
use Rattle.cri_msgs.specs.declared.calls.Request.{Request}
use Rattle.cri_msgs.specs.declared.replies.Reply.{Reply}
use Rattle.cri_msgs.specs.declared.version.Version.{Version}
use Rattle.cri_msgs.specs.Replies.{ReadsReply}
use Rattle.cri_frames.specs.declared.faults.Lost.{Lost}
use Rattle.cri_frames.specs.declared.faults.Lost.TheVariants.{WriteFailed, ReadFailed, Ended, BadFrame}
use Rattle.cri_frames.specs.declared.faults.Lost.TheVariants.{WrongNumber, Memory}
use Rattle.cri_frames.specs.declared.moving.Stop.{Stop}
use Rattle.cri_frames.specs.declared.moving.Stop.TheVariants as stop
use Rattle.cri_frames.specs.Calls.{frame_of_request}
use Rattle.cri_frames.specs.Received.{HasNoHead, TakesPart}

-- fewer bytes than this were taken
pub record TakesFewer (count : ℕ) (old new : Option (List ℕ)) : Type 0 where
  pub bytes : List ℕ
  pub taken : Consumes old new bytes
  pub fewer : length bytes < count

-- a read failed, or the input ended, after fewer bytes than there is room for
abbrev pub Stops : ℕ → Option (List ℕ) → Option (List ℕ) → ℕ → ℕ → Stop → Type 0
Stops count old new failures failures' stop.Failed = TakesFewer count old new × HasRisen failures failures'
Stops count old new failures failures' stop.Ended = TakesFewer count old new × IsAtEnd new

-- the cause of a call that is lost by this stop
abbrev pub lost_by : Stop → Lost
lost_by stop.Failed = ReadFailed
lost_by stop.Ended = Ended

-- why this many bytes were not read
abbrev pub IsNotFilled : ℕ → Option (List ℕ) → Option (List ℕ) → ℕ → ℕ → Lost → Type 0
IsNotFilled count old new failures failures' (WriteFailed _) = ⊥
IsNotFilled count old new failures failures' ReadFailed = TakesFewer count old new
    × HasRisen failures failures'
IsNotFilled count old new failures failures' Ended = TakesFewer count old new × IsAtEnd new
IsNotFilled count old new failures failures' BadFrame = ⊥
IsNotFilled count old new failures failures' WrongNumber = ⊥
IsNotFilled count old new failures failures' Memory = ⊤

-- why a frame was not read
abbrev pub IsNotReceived : Version → Option (List ℕ) → Option (List ℕ) → ℕ → ℕ → Lost → Type 0
IsNotReceived version old new failures failures' (WriteFailed count) = ⊥
IsNotReceived version old new failures failures' ReadFailed = TakesPart version old new
    × HasRisen failures failures'
IsNotReceived version old new failures failures' Ended = TakesPart version old new × IsAtEnd new
IsNotReceived version old new failures failures' BadFrame = HasNoHead version old new
IsNotReceived version old new failures failures' WrongNumber = ⊥
IsNotReceived version old new failures failures' Memory = ⊤

-- why a request was not written
abbrev pub IsNotSent : Version → Request → Option (List ℕ) → Option (List ℕ) → ℕ → ℕ → Lost → Type 0
IsNotSent version request old new failures failures' (WriteFailed count) =
    (count < length (frame_of_request version request))
    × Appends old new (take count (frame_of_request version request)) × HasRisen failures failures'
IsNotSent version request old new failures failures' ReadFailed = ⊥
IsNotSent version request old new failures failures' Ended = ⊥
IsNotSent version request old new failures failures' BadFrame = ⊥
IsNotSent version request old new failures failures' WrongNumber = ⊥
IsNotSent version request old new failures failures' Memory = Keeps old new

-- why a text is not the reply with this number
abbrev pub IsNoReplyTo : Version → ℕ → List ℕ → Lost → Type 0
IsNoReplyTo version id text (WriteFailed count) = ⊥
IsNoReplyTo version id text ReadFailed = ⊥
IsNoReplyTo version id text Ended = ⊥
IsNoReplyTo version id text BadFrame = (reply : Reply) → ReadsReply version text reply → ⊥
IsNoReplyTo version id text WrongNumber = (reply : Reply) × ReadsReply version text reply × (reply.id ≢ id)
IsNoReplyTo version id text Memory = ⊤
