-- The text of a reply is read as that reply, and what is read is the text's reply.
use Rattle.std.proofs.Common.{◌≡◌, ℕ, List, Result, Ok, Err}
use Rattle.std.specs.Prelude.{IfOk}
use Rattle.json_tree.specs.Tree.{tree_of}
use Rattle.json_tree.specs.Reading.{Gives}
use Rattle.cri_msgs.specs.declared.replies.Reply.{Reply}
use Rattle.cri_msgs.specs.declared.faults.MessageFault.{MessageFault}
use Rattle.cri_msgs.specs.declared.faults.MessageFault.TheVariants.{Memory}
use Rattle.cri_msgs.specs.declared.version.Version.{Version}
use Rattle.cri_msgs.specs.Reading.{reply_of, reply_reading}
use Rattle.cri_msgs.specs.Replies.{ReadsReply}
use Rattle.cri_msgs.proofs.FoundReply.{reply_found}
use Rattle.cri_msgs.proofs.OnlyReply.{reply_only}
use Rattle.cri_msgs.proofs.Messages.{from_found, from_only}

pub found : (version : Version) (bytes : List ℕ) (r : Result Reply MessageFault)
    → Gives Memory (λ x. x) r (reply_reading version bytes) → IfOk r (ReadsReply version bytes)
found version bytes (Ok reply) h =
    let there = from_found (reply_of version) (tree_of bytes) reply h in
    record { tree = there.0; is = there.1; says = reply_found version there.0 reply there.2 }
found version bytes (Err e) h = tt

pub only : (version : Version) (bytes : List ℕ) (reply : Reply) → ReadsReply version bytes reply
    → reply_reading version bytes ≡ Ok reply
only version bytes reply h = from_only (reply_of version) (tree_of bytes) h.tree reply h.is
    (reply_only version h.tree reply h.says)
