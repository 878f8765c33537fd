-- Streams of frames, this project's own: docs/SEMANTICS.md, "Frames".
use Rattle.std.specs.Prelude.{◌≡◌, ◌↔◌, ℕ, Bool, IsTrue, List, ◌++◌, length}
use Rattle.std.specs.List.{AllByRecursion, flat_map}
use Rattle.cri_msgs.specs.declared.version.Version.{Version}
use Rattle.cri_frames.specs.Frames.{BeginsNone, IsBad, IsLength, frame_of}

-- a frame: its version and its text
abbrev pub Frame : Type 0
Frame = Version × List ℕ

abbrev pub IsFrame : Frame → Type 0
IsFrame frame = IsLength (length frame.1)

-- the frame's bytes
abbrev pub bytes_of : Frame → List ℕ
bytes_of frame = frame_of frame.0 frame.1

-- these frames one after the other, and then this rest
abbrev pub stream_of : List Frame → List ℕ → List ℕ
stream_of frames rest = flat_map bytes_of frames ++ rest

-- the stream is these frames, and then a rest that begins no whole one
pub record Splits (stream : List ℕ) (frames : List Frame) (rest : List ℕ) : Type 0 where
  pub whole : stream ≡ stream_of frames rest
  pub each : AllByRecursion IsFrame frames
  pub begins_none : BeginsNone rest

-- the stream's rest begins with the head of no frame
pub record HasBadRest (stream : List ℕ) : Type 0 where
  pub frames : List Frame
  pub rest : List ℕ
  pub splits : Splits stream frames rest
  pub bad : IsBad rest

-- what a feed keeps: whole frames, a rest that begins none, and whether that is bad
pub record IsKept (frames : List Frame) (rest : List ℕ) (failed : Bool) : Type 0 where
  pub each : AllByRecursion IsFrame frames
  pub begins_none : BeginsNone rest
  pub failed_is : IsTrue failed ↔ IsBad rest
