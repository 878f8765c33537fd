use Rattle.std.proofs.Common.{◌∙◌, Ok, inl, inr, subst, sym}
use Rattle.creation.proofs.files.lasting_value.Goals as goal

pub returns-in_ok-lasting-in-Err : goal.returns-in_ok-lasting-in-Err
returns-in_ok-lasting-in-Err g c = let same = c.in_ok-lasting-in-Err.ensures in
    elim c.in-Err.ensures.refused [
      | inl memory ↦ absurd (same.1 (same.0 ∙ memory))
      | inr lacks ↦ subst (λ refusal. g.T.ReadAs.lacks (Ok (record {
        calls = c.args.calls;
        bytes = c.args.bytes.now;
      })) refusal) (sym same.0) lacks
    ]
