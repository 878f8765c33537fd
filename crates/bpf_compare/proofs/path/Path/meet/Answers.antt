use Rattle.std.proofs.lemmas.Result.{IfOk-weaker}
use Rattle.bpf_compare.proofs.path.Path.meet.Goals as goal

pub returns-in-Some-or-clause-becomes : goal.returns-in-Some-or-clause-becomes
returns-in-Some-or-clause-becomes c = IfOk-weaker c.restart_with.result _ _ (λ progress becomes call of meets.
    becomes _ _ call c.args.one meets.first_is meets.of_first meets.among) c.restart_with.ensures.becomes
