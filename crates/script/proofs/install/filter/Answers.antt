use Rattle.std.proofs.Common.{subst, sym, true≢false}
use Rattle.bpf_verify.specs.Sound.{IsSound}
use Rattle.script.proofs.Rows.{one_code}
use Rattle.script.proofs.install.filter.Goals as goal

pub returns-clause-none : goal.returns-clause-none
returns-clause-none c = λ known numbers filter are spelled.
    true≢false (sym (c.in-Err.ensures.sound.1
    (subst IsSound (one_code c.written_is_read.ensures.alone numbers filter c.in_ok-insns.insns.items
    spelled.each (c.in_ok-insns.ensures.found numbers are)) spelled.sound)))
