use Rattle.bpf_code.proofs.RoundTrip.{code_small}
use Rattle.bpf_code.proofs.laws.codes_are_small.Goals as goal

pub returns : goal.returns
returns c = code_small
