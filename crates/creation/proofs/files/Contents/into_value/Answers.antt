use Rattle.std.proofs.Common.{◌≡◌, ◌⊎◌, ◌∙◌, ℕ, List, Ok, IfErr, ap, subst}
use Rattle.cri_msgs.specs.declared.refusals.Refusal.TheVariants.{Memory}
use Rattle.creation.specs.Made.{FileText}
use Rattle.creation.proofs.files.Contents.into_value.Goals as goal

pub returns-clause-refused : goal.returns-clause-refused
returns-clause-refused g c =
    let with_bytes : List ℕ → FileText = λ bytes. record { calls = c.self.inside.calls; bytes = bytes } in
    subst
    (λ text. IfErr c.value_by.result (λ refusal. (refusal ≡ Memory) ⊎ g.T.ReadAs.lacks (Ok text) refusal))
    (ap with_bytes c.as_slice.ensures.value ∙ c.self.view_is) c.value_by.ensures.refused
