use Rattle.std.proofs.Common.{subst, arith}
use Rattle.oci_profile.specs.Reading.{Reads}
use Rattle.oci_profile.proofs.Answered.{long_fault, no_fault, first, not_large}
use Rattle.oci_profile.proofs.Found.{found}
use Rattle.oci_profile.proofs.Only.{only}
use Rattle.oci_profile.proofs.reader.read_placed_with.Goals as goal

pub returns-then-bytes-gt-MAX_PROFILE_BYTES-clause-first :
    goal.returns-then-bytes-gt-MAX_PROFILE_BYTES-clause-first
returns-then-bytes-gt-MAX_PROFILE_BYTES-clause-first c = λ not_memory.
    rw (c.here.ensures) (long_fault c.args.calls c.args.bytes.now (omega arith))

pub returns-clause-found : goal.returns-clause-found
returns-clause-found c = found c.args.calls c.args.bytes.now c.short.result (omega arith) c.short.ensures

pub returns-clause-only : goal.returns-clause-only
returns-clause-only c = λ profile is. subst (Reads (λ profile. profile) c.short.result)
    (only c.args.calls c.args.bytes.now profile is) c.short.ensures

pub returns-clause-no_fault : goal.returns-clause-no_fault
returns-clause-no_fault c = no_fault c.args.calls c.args.bytes.now c.short.result (omega arith) c.short.ensures

pub returns-clause-first : goal.returns-clause-first
returns-clause-first c = first c.args.calls c.args.bytes.now c.short.result (omega arith) c.short.ensures

pub returns-clause-large : goal.returns-clause-large
returns-clause-large c = (
  λ large. absurd (not_large c.args.calls c.args.bytes.now c.short.result c.short.ensures large),
  λ long. absurd (omega arith),
)
