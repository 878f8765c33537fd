-- If the bytes of a text were not read after its head, no frame was read.
use Rattle.std.proofs.Common.{ℕ, ◌<◌, ◌≤◌, List, ◌++◌, Option, Result, Ok, Err, IfErr, length, refl, inr}
use Rattle.std.proofs.Common.{arith}
use Rattle.std.proofs.KnownBytes.{Consumes-trans}
use Rattle.std.specs.Io.KnownBytes.{Consumes}
use Rattle.cri_msgs.specs.declared.version.Version.{Version}
use Rattle.cri_frames.specs.declared.faults.Lost.{Lost}
use Rattle.cri_frames.specs.declared.faults.Lost.TheVariants.{WriteFailed, ReadFailed, Ended, BadFrame}
use Rattle.cri_frames.specs.declared.faults.Lost.TheVariants.{WrongNumber, Memory}
use Rattle.cri_frames.specs.Frames.{IsLength, head_of}
use Rattle.cri_frames.specs.Received.{TakesPart}
use Rattle.cri_frames.specs.Steps.{IsNotFilled, IsNotReceived, TakesFewer}

module _ (version : Version) (count : ℕ) (old mid new : Option (List ℕ)) (before between after : ℕ)
    (fit : IsLength count) (head : Consumes old mid (head_of version count))
    (counted : before ≤ between) where
  part_behind_head : TakesFewer count mid new → TakesPart version old new
  part_behind_head part = record {
    bytes = head_of version count ++ part.bytes;
    taken = Consumes-trans old mid new (head_of version count) part.bytes head part.taken;
    cut_off = inr (count, fit, refl, (let fewer : length part.bytes < count = part.fewer in omega arith));
  }

  lost_behind_head : (lost : Lost) → IsNotFilled count mid new between after lost
      → IsNotReceived version old new before after lost
  lost_behind_head (WriteFailed at) not = not
  lost_behind_head ReadFailed why = (part_behind_head why.0, omega (arith, why.1))
  lost_behind_head Ended why = (part_behind_head why.0, why.1)
  lost_behind_head BadFrame not = absurd not
  lost_behind_head WrongNumber not = not
  lost_behind_head Memory _ = tt

  pub not_received : {X : Type 0} (r : Result X Lost)
      → IfErr r (λ lost. IsNotFilled count mid new between after lost)
      → IfErr r (λ lost. IsNotReceived version old new before after lost)
  not_received (Ok x) h = tt
  not_received (Err lost) h = lost_behind_head lost h
