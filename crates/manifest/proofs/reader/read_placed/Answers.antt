use Rattle.std.proofs.Common.{subst}
use Rattle.manifest.specs.Reading.{Reads}
use Rattle.manifest.proofs.FoundPod.{found}
use Rattle.manifest.proofs.Only.{only}
use Rattle.manifest.proofs.reader.read_placed.Goals as goal

pub returns-clause-found : goal.returns-clause-found
returns-clause-found c = found c.args.bytes.now c.reading.result c.reading.ensures

pub returns-clause-only : goal.returns-clause-only
returns-clause-only c = λ pod is. subst (Reads (λ pod. pod) c.reading.result)
    (only c.args.bytes.now pod is) c.reading.ensures
