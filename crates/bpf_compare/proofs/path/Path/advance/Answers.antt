use Rattle.std.proofs.lemmas.Result.{IfOk-weaker}
use Rattle.bpf_compare.proofs.Waiting.{is_call}
use Rattle.bpf_compare.proofs.path.Path.advance.Goals as goal

pub returns-in-Ends-2-clause-becomes : goal.returns-in-Ends-2-clause-becomes
returns-in-Ends-2-clause-becomes c = IfOk-weaker c.meet.result _ _ (λ progress becomes call of takes.
    let at = rw c.in-Some.is at takes in
    let ended = rw c.in-Ends-2.is at (c.in_ok-advance-in-Some.ensures call (is_call _ call of) at.1) in
    becomes call of (record {
      first_is = c.in-Some.is;
      of_first = at.0;
      of_second = ended.0;
      among = ended.1;
    })) c.meet.ensures.becomes
