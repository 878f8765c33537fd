use Rattle.std.proofs.Common.{◌≡◌, sym, subst, ◌∙◌, List}
use Rattle.bpf_code.specs.declared.insn.Insn.{Insn}
use Rattle.bpf_compare.specs.Agree.{Agree}
use Rattle.bpf_compare.proofs.Same.{agrees, code_is}
use Rattle.bpf_compare.proofs.comparer.is_same_code.Goals as goal

pub returns : goal.returns
returns c = λ same call.
    let code : List Insn = c.args.first.now in
    let equal : code ≡ c.args.second.now = sym c.insns.ensures.same
    ∙ code_is _ _ (sym c.eq.ensures ∙ same) ∙ c.insns-2.ensures.same in
    let P : List Insn → Type 0 = λ other. Agree code other call in
    let run = c.sound_code_runs.ensures.run _ call c.insns.ensures.sound in
    subst P equal (agrees code call (rw c.insns.ensures.same at run))
