use Rattle.compile.proofs.Common.{ap, arith, ◌&&◌, ◌∙◌, ◌==◌, ◌%◌, sym, bit_and, slice_index, on_ok_weaker}
use Rattle.compile.proofs.Common.{literal_holds}
use Rattle.compile.proofs.Saying.{says_as, masked_both, same_masked}
use Rattle.compile.proofs.rules.add_masked.Goals as goal

pub returns : goal.returns
returns c =
    on_ok_weaker c.add_both.result (λ says.
    says_as c.args.clauses.now.items c.add_both.new.clauses.items _ _ _ _
    (says 3 (c.masked-lower.ensures.small (omega (arith, c.requires)) (omega (arith, c.requires)))
    (c.masked-upper.ensures.small (omega (arith, c.requires)) (omega (arith, c.requires)))) (omega arith)
    (λ call is_call.
    ap (λ b. b && literal_holds c.masked-upper.result call)
    (same_masked (literal_holds c.masked-lower.result call) _ _ _ _ _ _ (c.masked-lower.ensures.holds call
    (omega (arith, c.words.ensures.low call c.args.index is_call c.requires)))
    (c.words.ensures.low call c.args.index is_call c.requires) c.low.ensures c.low-2.ensures)
    ∙ ap (λ b. (bit_and (slice_index call.args c.args.index % 4294967296) (c.args.mask % 4294967296)
    == c.args.with % 4294967296) && b)
    (same_masked (literal_holds c.masked-upper.result call) _ _ _ _ _ _ (c.masked-upper.ensures.holds call
    (omega (arith, c.words.ensures.high call c.args.index is_call c.requires, is_call.args c.args.index)))
    (c.words.ensures.high call c.args.index is_call c.requires) c.high.ensures c.high-2.ensures)
    ∙ sym (masked_both (slice_index call.args c.args.index) c.args.mask c.args.with))) c.add_both.ensures
