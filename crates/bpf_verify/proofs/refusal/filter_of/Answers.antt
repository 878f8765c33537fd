use Rattle.std.proofs.Common.{◌≡◌, ◌∙◌, sym, subst, List}
use Rattle.bpf_code.specs.declared.insn.Insn.{Insn}
use Rattle.bpf_verify.specs.Faults.{IsFirstFault}
use Rattle.bpf_verify.specs.Sound.{IsSound}
use Rattle.bpf_verify.proofs.refusal.filter_of.Goals as goal

-- the bytes spell one code alone
pub returns-in-Ok-verify-clause-first : goal.returns-in-Ok-verify-clause-first
returns-in-Ok-verify-clause-first c code fault is short first enough =
    let same : code ≡ c.in-Ok.insns.items =
    c.written_is_read.ensures.alone code c.in-Ok.insns.items is.fits c.in-Ok.ensures.fits (sym is.text
    ∙ c.in-Ok.ensures.text) in
    let P : List Insn → Type 0 = λ l. IsFirstFault l fault in
    absurd (c.in-Ok-verify.ensures.told fault (subst P same first))

pub returns-in-Ok-clause-accepts : goal.returns-in-Ok-clause-accepts
returns-in-Ok-clause-accepts c code is sound enough =
    let same : code ≡ c.in-Ok.insns.items =
    c.written_is_read.ensures.alone code c.in-Ok.insns.items is.fits c.in-Ok.ensures.fits (sym is.text
    ∙ c.in-Ok.ensures.text) in
    c.in-Err-verify.ensures.sound.1 (subst IsSound same sound)

pub returns-in-Ok-clause-first : goal.returns-in-Ok-clause-first
returns-in-Ok-clause-first c code fault is short first enough =
    let same : code ≡ c.in-Ok.insns.items =
    c.written_is_read.ensures.alone code c.in-Ok.insns.items is.fits c.in-Ok.ensures.fits (sym is.text
    ∙ c.in-Ok.ensures.text) in
    let P : List Insn → Type 0 = λ l. IsFirstFault l fault in
    let told : c.in-Err-verify.fault ≡ fault = c.in-Err-verify.ensures.told fault (subst P same first) in
    cc
