use Rattle.bpf_code.proofs.RoundTrip.{bytes_of_code-injective, text_has_no_fault}
use Rattle.bpf_code.proofs.laws.written_is_read.Goals as goal

pub returns-clause-fine : goal.returns-clause-fine
returns-clause-fine c = text_has_no_fault

pub returns-clause-alone : goal.returns-clause-alone
returns-clause-alone c = bytes_of_code-injective
