use Rattle.compile.proofs.Common.{ap, arith, not, ◌∙◌, ◌==◌, ◌%◌, sym, ◌||◌, slice_index, on_ok_weaker}
use Rattle.compile.proofs.Common.{literal_holds}
use Rattle.compile.proofs.Saying.{says_as, unequal_either, same_equal}
use Rattle.compile.proofs.rules.add_unequal.Goals as goal

pub returns : goal.returns
returns c =
    on_ok_weaker c.add_either.result (λ says.
    says_as c.args.clauses.now.items c.add_either.new.clauses.items _ _ _ _
    (says 2 (c.opposite-lower.ensures.small 2
    (c.equal.ensures.small (omega (arith, c.requires)) (omega (arith, c.requires))))
    (c.opposite-upper.ensures.small 2
    (c.equal-2.ensures.small (omega (arith, c.requires)) (omega (arith, c.requires))))) (omega arith)
    (λ call is_call.
    ap (λ b. b || literal_holds c.opposite-upper.result call) (c.opposite-lower.ensures.holds call
    ∙ ap not (same_equal (literal_holds c.equal.result call) _ _ _ _
    (c.equal.ensures.holds call) (c.words.ensures.low call c.args.index is_call c.requires) c.low.ensures))
    ∙ ap (λ b. not (slice_index call.args c.args.index % 4294967296 == c.args.value % 4294967296) || b)
    (c.opposite-upper.ensures.holds call ∙ ap not (same_equal (literal_holds c.equal-2.result call) _ _ _ _
    (c.equal-2.ensures.holds call) (c.words.ensures.high call c.args.index is_call c.requires)
    c.high.ensures))
    ∙ sym (unequal_either (slice_index call.args c.args.index) c.args.value))) c.add_either.ensures
