use Rattle.profile_learn.proofs.Summaries.{one_more}
use Rattle.profile_learn.proofs.learned.Learned.note.Goals as goal

pub returns : goal.returns
returns c = record {
  noted = λ history is.
      rw (
        c.noted-self.ensures,
        c.noted-self-2.ensures,
        c.noted-self-3.ensures,
        c.noted-self-4.ensures,
        c.noted-self-5.ensures,
      )
      (one_more c.args.self.now c.args.sighting history c.requires is);
}
