use Rattle.absent_names.proofs.Suggested.{suggested}
use Rattle.absent_names.proofs.near.suggestions_are_calls.Goals as goal

pub returns : goal.returns
returns c = λ calls. suggested calls (c.names_and_numbers_agree.ensures.agree calls)
