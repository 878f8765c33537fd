use Rattle.compile.proofs.Common.{ap, arith, ◌&&◌, ◌∙◌, ◌==◌, ◌%◌, sym, slice_index, on_ok_weaker}
use Rattle.compile.proofs.Common.{literal_holds}
use Rattle.compile.proofs.Saying.{says_as, equal_both, same_equal}
use Rattle.compile.proofs.rules.add_equal.Goals as goal

pub returns : goal.returns
returns c =
    on_ok_weaker c.add_both.result (λ says.
    says_as c.args.clauses.now.items c.add_both.new.clauses.items _ _ _ _
    (says 2 (c.equal-lower.ensures.small (omega (arith, c.requires)) (omega (arith, c.requires)))
    (c.equal-upper.ensures.small (omega (arith, c.requires)) (omega (arith, c.requires)))) (omega arith)
    (λ call is_call.
    ap (λ b. b && literal_holds c.equal-upper.result call)
    (same_equal (literal_holds c.equal-lower.result call) _ _ _ _ (c.equal-lower.ensures.holds call)
    (c.words.ensures.low call c.args.index is_call c.requires) c.low.ensures)
    ∙ ap (λ b. (slice_index call.args c.args.index % 4294967296 == c.args.value % 4294967296) && b)
    (same_equal (literal_holds c.equal-upper.result call) _ _ _ _ (c.equal-upper.ensures.holds call)
    (c.words.ensures.high call c.args.index is_call c.requires) c.high.ensures)
    ∙ sym (equal_both (slice_index call.args c.args.index) c.args.value))) c.add_both.ensures
