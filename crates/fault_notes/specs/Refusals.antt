-- The names of the refusals of a call: those of gRPC's status codes, and one of this project's own.
-- docs/SEMANTICS.md, "Programs".
use Rattle.std.specs.Prelude.{ℕ, List, codes}
use Rattle.cri_msgs.specs.declared.refusals.Refusal.{Refusal}
use Rattle.cri_msgs.specs.declared.refusals.Refusal.TheVariants.{InvalidArgument, NotFound, AlreadyExists}
use Rattle.cri_msgs.specs.declared.refusals.Refusal.TheVariants.{ResourceExhausted, FailedPrecondition}
use Rattle.cri_msgs.specs.declared.refusals.Refusal.TheVariants.{Internal, Memory}

-- the names of gRPC's status codes, and of running out of memory
abbrev pub refusal_text : Refusal → List ℕ
refusal_text InvalidArgument = codes "InvalidArgument"
refusal_text NotFound = codes "NotFound"
refusal_text AlreadyExists = codes "AlreadyExists"
refusal_text ResourceExhausted = codes "ResourceExhausted"
refusal_text FailedPrecondition = codes "FailedPrecondition"
refusal_text Internal = codes "Internal"
refusal_text Memory = codes "Memory"
