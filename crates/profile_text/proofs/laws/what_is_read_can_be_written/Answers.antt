use Rattle.profile_text.proofs.Readable.{readable}
use Rattle.profile_text.proofs.laws.what_is_read_can_be_written.Goals as goal

pub returns : goal.returns
returns c = λ calls bytes profile reads.
    readable calls (c.names_and_numbers_agree.ensures.agree calls) bytes profile reads
