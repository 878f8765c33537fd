-- If the text of a frame is no reply to a call, this is reported.
use Rattle.std.proofs.Common.{ℕ, List, Option, None, Some, Result, Ok, Err, IfErr, length, inr, sym, ◌∙◌}
use Rattle.std.specs.Io.KnownBytes.{Consumes, Keeps}
use Rattle.cri_msgs.specs.declared.replies.Reply.{Reply}
use Rattle.cri_msgs.specs.declared.version.Version.{Version}
use Rattle.cri_frames.specs.declared.faults.Lost.{Lost}
use Rattle.cri_frames.specs.declared.faults.Lost.TheVariants.{WriteFailed, ReadFailed, Ended, BadFrame}
use Rattle.cri_frames.specs.declared.faults.Lost.TheVariants.{WrongNumber, Memory}
use Rattle.cri_frames.specs.Calls.{Takes}
use Rattle.cri_frames.specs.Steps.{IsNoReplyTo}
use Rattle.cri_frames.specs.Frames.{IsLength, frame_of}

-- a wire that was written to has the same left to be read
from_kept : (old mid new : Option (List ℕ)) (bytes : List ℕ) → Keeps old mid → Consumes mid new bytes
    → Consumes old new bytes
from_kept None mid new bytes kept taken = tt
from_kept (Some left) None new bytes kept taken = absurd kept
from_kept (Some left) (Some same) None bytes kept taken = absurd taken
from_kept (Some left) (Some same) (Some rest) bytes kept taken = sym kept ∙ taken

module _ (version : Version) (id : ℕ) (text : List ℕ) (old mid new : Option (List ℕ))
    (fits : IsLength (length text)) (kept : Keeps old mid)
    (taken : Consumes mid new (frame_of version text)) where
  lost_by_reply : (lost : Lost) → IsNoReplyTo version id text lost → Takes version id old new lost
  lost_by_reply (WriteFailed count) not = absurd not
  lost_by_reply ReadFailed not = absurd not
  lost_by_reply Ended not = absurd not
  lost_by_reply BadFrame not = inr (record {
    text = text;
    fits = fits;
    taken =
        from_kept old mid new _ kept taken;
    says_none = not;
  })
  lost_by_reply WrongNumber other = record {
    reply = other.0;
    takes = record { text = text; fits = fits; taken = from_kept old mid new _ kept taken; says = other.1 };
    other = other.2;
  }
  lost_by_reply Memory not = tt

  pub not_replied : (r : Result Reply Lost) → IfErr r (IsNoReplyTo version id text)
      → IfErr r (Takes version id old new)
  not_replied (Ok reply) h = tt
  not_replied (Err lost) h = lost_by_reply lost h
