use Rattle.bpf_compare.proofs.Words.{call_of_words}
use Rattle.bpf_compare.proofs.witness.witness.Goals as goal

pub returns : goal.returns
returns c = λ call is settled among. call_of_words call _ _ _ _ _ _ _ _ _ is (record {
  nr = c.words_of_fields.ensures.nr call;
  arch = c.words_of_fields.ensures.arch call;
  ip_low = c.words_of_fields.ensures.ip_low call;
  ip_high = c.words_of_fields.ensures.ip_high call;
  args_low = c.words_of_fields.ensures.args_low call;
  args_high = c.words_of_fields.ensures.args_high call;
}) (c.number.ensures call is settled among) (c.number-2.ensures call is settled among)
    (c.double.ensures call is settled among) (c.double-2.ensures call is settled among)
    (c.double-3.ensures call is settled among) (c.double-4.ensures call is settled among)
    (c.double-5.ensures call is settled among) (c.double-6.ensures call is settled among)
    (c.double-7.ensures call is settled among)
