-- The text of a request is read as that request, and what is read is the text's request.
use Rattle.std.proofs.Common.{◌≡◌, ℕ, List, Result, Ok, Err}
use Rattle.std.specs.Prelude.{IfOk}
use Rattle.json_tree.specs.Tree.{tree_of}
use Rattle.json_tree.specs.Reading.{Gives}
use Rattle.cri_msgs.specs.declared.calls.Request.{Request}
use Rattle.cri_msgs.specs.declared.faults.MessageFault.{MessageFault}
use Rattle.cri_msgs.specs.declared.faults.MessageFault.TheVariants.{Memory}
use Rattle.cri_msgs.specs.declared.version.Version.{Version}
use Rattle.cri_msgs.specs.Reading.{request_of, request_reading}
use Rattle.cri_msgs.specs.Requests.{ReadsRequest}
use Rattle.cri_msgs.proofs.Found.{request_found}
use Rattle.cri_msgs.proofs.Only.{request_only}
use Rattle.cri_msgs.proofs.Messages.{from_found, from_only}

pub found : (version : Version) (bytes : List ℕ) (r : Result Request MessageFault)
    → Gives Memory (λ x. x) r (request_reading version bytes) → IfOk r (ReadsRequest version bytes)
found version bytes (Ok request) h =
    let there = from_found (request_of version) (tree_of bytes) request h in
    record { tree = there.0; is = there.1; says = request_found version there.0 request there.2 }
found version bytes (Err e) h = tt

pub only : (version : Version) (bytes : List ℕ) (request : Request) → ReadsRequest version bytes request
    → request_reading version bytes ≡ Ok request
only version bytes request h = from_only (request_of version) (tree_of bytes) h.tree request h.is
    (request_only version h.tree request h.says)
