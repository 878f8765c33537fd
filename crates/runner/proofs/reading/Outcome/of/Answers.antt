-- The result follows from the text's own reading.
use Rattle.std.proofs.Common.{◌≡◌, ◌≢◌, Ok, List, ℕ, subst}
use Rattle.std.specs.Prelude.{IfOk, IfErr}
use Rattle.cri_msgs.specs.declared.calls.Request.{Request}
use Rattle.cri_msgs.specs.declared.faults.MessageFault.TheVariants.{Memory}
use Rattle.cri_msgs.specs.Reading.{request_reading}
use Rattle.runner.specs.Readings.{IsOther}
use Rattle.runner.proofs.Readings.{is_found, is_other}
use Rattle.runner.proofs.reading.Outcome.of.Goals as goal

pub invariant_of-result : goal.invariant_of-result
invariant_of-result c =
    let given = c.read-given.result in
    let version = c.args.job.version in
    let read = c.read-given.ensures in
    record {
      found = subst (λ (text : List ℕ). IfOk given (λ (request : Request). request_reading version text ≡ Ok request))
          c.as_slice.ensures.value (is_found version c.as_slice.result.now given read.found);
      other = subst (λ (text : List ℕ). IfErr given (λ fault. fault ≢ Memory → IsOther version text fault))
          c.as_slice.ensures.value (is_other version c.as_slice.result.now given read.only read.refused);
    }
