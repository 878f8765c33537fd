-- What is read where a frame of one version is expected, this project's own: docs/SEMANTICS.md, "Calls over a
-- wire". The bytes are those that were taken from the wire, if its model has them.
use Rattle.std.specs.Prelude.{◌≡◌, ◌≢◌, ◌⊎◌, ℕ, ◌+◌, ◌<◌, List, Option, length, take}
use Rattle.std.specs.Io.KnownBytes.{Consumes}
use Rattle.cri_msgs.specs.declared.version.Version.{Version}
use Rattle.cri_frames.specs.Frames.{IsLength, head_of}

-- less than a head, or a head of the version and fewer bytes than its length
abbrev pub IsCutOff : Version → List ℕ → Type 0
IsCutOff version bytes = (length bytes < 4) ⊎ ((count : ℕ) × IsLength count
    × (take 4 bytes ≡ head_of version count) × (length bytes < 4 + count))

-- four bytes that are no head of the version
pub record IsNoHead (version : Version) (bytes : List ℕ) : Type 0 where
  pub four : length bytes ≡ 4
  pub no_head : (count : ℕ) → IsLength count → bytes ≢ head_of version count

-- less than a frame was taken
pub record TakesPart (version : Version) (old new : Option (List ℕ)) : Type 0 where
  pub bytes : List ℕ
  pub taken : Consumes old new bytes
  pub cut_off : IsCutOff version bytes

-- four bytes were taken, and are no head of the version
pub record HasNoHead (version : Version) (old new : Option (List ℕ)) : Type 0 where
  pub bytes : List ℕ
  pub taken : Consumes old new bytes
  pub no_head : IsNoHead version bytes
