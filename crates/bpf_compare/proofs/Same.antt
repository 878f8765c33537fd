-- Equal code has the same runs.
use Rattle.std.proofs.Common.{◌≡◌, ℕ, List, [], ◌∷◌, true, true≢false, refl, sym, ap, ◌∙◌, rules}
use Rattle.std.specs.Cmp.{first_so, second_so}
use Rattle.std.specs.Cmp.Lexicographic.{pointwise}
use Rattle.bpf_code.specs.declared.insn.Insn.{Insn}
use Rattle.bpf_code.specs.declared.operation.Operation.{Operation}
use Rattle.bpf_code.specs.contracts.insn.InsnPartialEq.TheImpl as insn_eq
use Rattle.bpf_code.specs.contracts.operation.OperationPartialEq.TheImpl as op_eq
use Rattle.call_data.specs.declared.sys_call.SysCall.{SysCall}
use Rattle.bpf_machine.specs.Runs.{Runs}
use Rattle.bpf_compare.specs.Agree.{Agree, Returns}

op_is : (one other : Operation) → op_eq.eq-value.it one other ≡ true → one ≡ other
op_is one other same = search rules

insn_is : (one other : Insn) → insn_eq.eq-value.it one other ≡ true → one ≡ other
insn_is one other same = search (rules, op_is)

pub code_is : (code other : List Insn) → pointwise (insn_eq.eq-value.it) code other ≡ true → code ≡ other
code_is [] [] same = refl
code_is [] (insn ∷ other) same = absurd (true≢false (sym same))
code_is (insn ∷ code) [] same = absurd (true≢false (sym same))
code_is (insn ∷ code) (given ∷ other) same =
    ap (λ i. i ∷ code) (insn_is insn given (first_so _ _ same))
    ∙ ap (λ is. given ∷ is) (code_is code other (second_so _ _ same))

pub agrees : (code : List Insn) (call : SysCall) → (value : ℕ) × (steps : ℕ) × Runs code call value steps
    → Agree code code call
agrees code call run =
    let returns : Returns code call run.0 = record { steps = run.1; run = run.2 } in
    record { value = run.0; of_first = returns; of_second = returns }
