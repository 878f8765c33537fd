use Rattle.std.proofs.Common.{◌∙◌, Result, Ok, Err, IfErr, ap, map, refl}
use Rattle.motchidu_c.proofs.resolving.text_for.Goals as goal

followed : {X E : Type 0} {P Q : E → Type 0} → (r : Result X E) → ((e : E) → P e → Q e) → IfErr r P
    → IfErr r Q
followed (Ok x) follows held = held
followed (Err e) follows held = follows e held

pub returns-clause-refused : goal.returns-clause-refused
returns-clause-refused c = followed c.text_under.result
    (λ status unresolved enough. record {
      settings = _;
      are_settings = record {
        caps_are = ap (map (λ cap. cap.now)) c.as_slice.ensures.value ∙ c.in-Ok.ensures;
        arch_is = refl;
        kernel_is = refl;
      };
      unresolved = unresolved enough;
    }) c.text_under.ensures.refused
