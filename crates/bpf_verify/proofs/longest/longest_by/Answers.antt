use Rattle.std.proofs.Common.{◌≡◌, ◌<◌, ◌≤◌, ◌-◌, ◌+◌, ℕ, List, Some, length, slice_get, get_or, sym, subst}
use Rattle.std.proofs.Common.{arith}
use Rattle.std.specs.Prelude.{slice_set}
use Rattle.std.proofs.lemmas.Option.{slice_get-get_or}
use Rattle.bpf_code.specs.declared.insn.Insn.{Insn}
use Rattle.bpf_code.specs.Flow.{flow_of}
use Rattle.bpf_verify.specs.Longest.{IsLongest}
use Rattle.bpf_verify.specs.Masks.{GoesBelow}
use Rattle.bpf_verify.specs.Sound.{IsSound}
use Rattle.bpf_verify.proofs.Places.{no_insn}
use Rattle.bpf_verify.proofs.Rules.{goes_below}
use Rattle.bpf_verify.proofs.WaysOn.{Knows, knows_more, most_fits, first_is_longest}
use Rattle.bpf_verify.proofs.longest.longest_by.Goals as goal

stands_at : (code : List Insn) (at : ℕ) → at < length code → slice_get code at ≡ Some (get_or code at no_insn)
stands_at code at within = slice_get-get_or code at no_insn within

below_at : (code : List Insn) (at limit : ℕ) → IsSound code → at < length code → length code ≤ limit
    → GoesBelow (flow_of (get_or code at no_insn).op) (get_or code at no_insn) at limit
below_at code at limit sound within short =
    goes_below code at (get_or code at no_insn) limit sound.places sound.last (stands_at code at within) short

next_at : (code : List Insn) (done : ℕ) (ahead : List ℕ) → done < length code
    → Knows code (length code - done) ahead → Knows code (length code - 1 - done + 1) ahead
next_at code done ahead within knows =
    let same : length code - done ≡ length code - 1 - done + 1 = omega arith in
    let P : ℕ → Type 0 = λ i. Knows code i ahead in
    subst P same knows

pub most_ahead-requires-clause-targets : goal.most_ahead-requires-clause-targets
most_ahead-requires-clause-targets c = below_at c.args.code.now
    (length c.args.code.now - 1 - c.loop-done.done) (length c.loop-done.ahead) c.requires.sound (omega arith)
    (omega (arith, c.requires.sound.short))

pub overflow_add-ahead : goal.overflow_add-ahead
overflow_add-ahead c =
    let at : ℕ = length c.args.code.now - 1 - c.loop-done.done in
    omega (
      arith,
      c.most_ahead.ensures,
      c.requires.sound.short,
      most_fits c.args.code.now at (get_or c.args.code.now at no_insn) c.loop-done.ahead
          (next_at c.args.code.now c.loop-done.done c.loop-done.ahead c.loop-done-test.true
          c.loop-done.invariant) (omega arith)
          (below_at c.args.code.now at (length c.args.code.now) c.requires.sound (omega arith) (omega arith)),
    )

pub loop-done-preserved : goal.loop-done-preserved
loop-done-preserved c =
    let at : ℕ = length c.args.code.now - 1 - c.loop-done.done in
    let same : at ≡ length c.args.code.now - (c.loop-done.done + 1) = omega arith in
    let new : List ℕ = slice_set c.loop-done.ahead at (c.most_ahead.result + 1) in
    let P : ℕ → Type 0 = λ i. Knows c.args.code.now i new in
    subst P same (rw c.most_ahead.ensures (knows_more c.args.code.now at
    (get_or c.args.code.now at no_insn) c.loop-done.ahead
    (next_at c.args.code.now c.loop-done.done c.loop-done.ahead c.loop-done-test.true c.loop-done.invariant)
    (stands_at c.args.code.now at (omega arith)) (omega arith) (omega (arith, c.requires.sound.short))
    (below_at c.args.code.now at (length c.args.code.now) c.requires.sound (omega arith) (omega arith))))

pub returns : goal.returns
returns c =
    let none : length c.args.code.now - c.loop-done.done ≡ 0 = omega arith in
    let P : ℕ → Type 0 = λ i. Knows c.args.code.now i c.loop-done.ahead in
    subst (IsLongest c.args.code.now) (sym c.from.ensures)
    (first_is_longest c.args.code.now c.loop-done.ahead c.requires.sound
    (subst P none c.loop-done.invariant))
