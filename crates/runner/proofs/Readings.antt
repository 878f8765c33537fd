-- What is known of a text that was read, by the one request that it reads as.
use Rattle.std.proofs.Common.{◌≡◌, ◌≢◌, ℕ, List, Result, Ok, Err}
use Rattle.std.specs.Prelude.{IfOk, IfErr}
use Rattle.json_tree.specs.Reading.{Gives}
use Rattle.cri_msgs.specs.declared.calls.Request.{Request}
use Rattle.cri_msgs.specs.declared.faults.MessageFault.{MessageFault}
use Rattle.cri_msgs.specs.declared.faults.MessageFault.TheVariants.{Memory, NoMessage}
use Rattle.cri_msgs.specs.declared.version.Version.{Version}
use Rattle.cri_msgs.specs.Reading.{request_reading}
use Rattle.cri_msgs.specs.Requests.{ReadsRequest, number_of}
use Rattle.cri_msgs.proofs.ReadRequest.{found, only}
use Rattle.runner.specs.Readings.{IsOther, IsReading}

pub is_found : (version : Version) (text : List ℕ) (result : Result Request MessageFault)
    → IfOk result (λ request. ReadsRequest version text request)
    → IfOk result (λ request. request_reading version text ≡ Ok request)
is_found version text (Ok request) reads = only version text request reads
is_found version text (Err fault) reads = tt

pub is_other : (version : Version) (text : List ℕ) (result : Result Request MessageFault)
    → ((request : Request) → ReadsRequest version text request
    → Gives Memory (λ (r : Request). r) result (Ok request))
    → IfErr result (λ fault. fault ≢ Memory → fault ≡ NoMessage (number_of text))
    → IfErr result (λ fault. fault ≢ Memory → IsOther version text fault)
is_other version text (Ok request) given refused = tt
is_other version text (Err fault) given refused = λ differs. (
  refused differs,
  λ request is. let reads : ReadsRequest version text request = found version text (Ok request) is in
      let same : ◌≡◌ {A = Result Request MessageFault} (Ok request) (Err fault) =
      given request reads differs in cc,
)

pub is_reading : (version : Version) (text : List ℕ) (result : Result Request MessageFault)
    → IfOk result (λ request. request_reading version text ≡ Ok request)
    → IfErr result (λ fault. fault ≢ Memory → IsOther version text fault)
    → IsReading version text result
is_reading version text (Ok request) is other = record {
  found = found version text (Ok request) is;
  only = λ wanted reads. let read : request_reading version text ≡ Ok wanted = only version text wanted reads in
      cc;
  refused = tt;
}
is_reading version text (Err fault) is other = record {
  found = tt;
  only = λ wanted reads differs. absurd ((other differs).1 wanted (only version text wanted reads));
  refused = λ differs. (other differs).0;
}
