use Rattle.bpf_compare.specs.Known.{number_at}
use Rattle.bpf_compare.proofs.Words.{word_fits}
use Rattle.bpf_compare.proofs.laws.words_fit.Goals as goal

pub returns-clause-fit : goal.returns-clause-fit
unfolding number_at
returns-clause-fit c = λ call place is within. word_fits call place is (record {
  nr = c.words_of_fields.ensures.nr call;
  arch = c.words_of_fields.ensures.arch call;
  ip_low = c.words_of_fields.ensures.ip_low call;
  ip_high = c.words_of_fields.ensures.ip_high call;
  args_low = c.words_of_fields.ensures.args_low call;
  args_high = c.words_of_fields.ensures.args_high call;
}) within

pub returns-clause-nr : goal.returns-clause-nr
unfolding number_at
returns-clause-nr c = λ call is. c.words_of_fields.ensures.nr call is.nr

pub returns-clause-arch : goal.returns-clause-arch
unfolding number_at
returns-clause-arch c = λ call is. c.words_of_fields.ensures.arch call is.arch
