-- Bytes that are written into the caller's room, with the length set as by snprintf(3): this project's own.
-- Unlike there, nothing is written if the bytes do not fit.
use Rattle.std.specs.Prelude.{◌≡◌, ℕ, ◌<◌, ◌≤◌, List, ◌++◌, length, drop}
use Rattle.motchidu_c.specs.declared.status.Status.TheVariants.{Accepted, NoRoom}
use Rattle.motchidu_c.specs.Status.{number_of}

-- these bytes are written to the front of the room if they fit, and the length is theirs in both cases
pub record IsPut (bytes old new : List ℕ) (len : ℕ) : Type 0 where
  pub len_is : len ≡ length bytes
  pub fits : length bytes ≤ length old → new ≡ bytes ++ drop (length bytes) old
  pub no_room : length old < length bytes → new ≡ old

-- and the answer is whether they fit
pub record IsGiven (bytes old new : List ℕ) (len answer : ℕ) : Type 0 where
  pub put : IsPut bytes old new len
  pub accepted : length bytes ≤ length old → answer ≡ number_of Accepted
  pub refused : length old < length bytes → answer ≡ number_of NoRoom
