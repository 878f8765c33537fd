use Rattle.std.proofs.lemmas.List.{get_or-replicate}
use Rattle.std.proofs.Common.{arith}
use Rattle.bpf_verify.proofs.words.first_unstored.Goals as goal

pub first_unstored_by-requires-clause-set : goal.first_unstored_by-requires-clause-set
first_unstored_by-requires-clause-set c = λ at within. get_or-replicate 4096 at 65535 0 (omega arith)
