-- Frames, this project's own: docs/SEMANTICS.md, "Frames". A byte is a number below 256.
use Rattle.std.specs.Prelude.{◌≢◌, ℕ, ◌<◌, ◌≤◌, List, ◌∷◌, ◌++◌, length, take}
use Rattle.byteorder.specs.Endian.{big_bytes}
use Rattle.cri_msgs.specs.declared.version.TheConstants.{MAX_TEXT}
use Rattle.cri_msgs.specs.declared.version.Version.{Version}
use Rattle.cri_msgs.specs.declared.version.Version.TheVariants.{V1, V2}

-- how long a frame's text may be
abbrev pub IsLength : ℕ → Type 0
IsLength length = (0 < length) × (length ≤ MAX_TEXT)

-- the byte that a version's frames begin with
abbrev pub first_byte : Version → ℕ
first_byte V1 = 0
first_byte V2 = 2

-- the four bytes before a text of this length: the version's byte, and the length, the highest byte first
abbrev pub head_of : Version → ℕ → List ℕ
head_of version length = first_byte version ∷ big_bytes 3 length

-- a text as it goes over the wire
abbrev pub frame_of : Version → List ℕ → List ℕ
frame_of version text = head_of version (length text) ++ text

-- these bytes begin with no whole frame
pub record BeginsNone (bytes : List ℕ) : Type 0 where
  pub none : (version : Version) (text more : List ℕ) → IsLength (length text)
      → bytes ≢ frame_of version text ++ more

-- the first four bytes are there, and are the head of no frame
pub record IsBad (bytes : List ℕ) : Type 0 where
  pub there : 4 ≤ length bytes
  pub no_head : (version : Version) (length : ℕ) → IsLength length → take 4 bytes ≢ head_of version length
