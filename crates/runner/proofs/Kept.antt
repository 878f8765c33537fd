-- The kept uids are those of the existing sandboxes.
use Rattle.std.proofs.Common.{◌≡◌, ◌≢◌, inl, inr, ℕ, List, Option, Some, None, IfNone, IfSome, is_some}
use Rattle.std.proofs.Common.{refl, sym}
use Rattle.std.proofs.Common.{subst, ap, ◌∙◌}
use Rattle.registry.specs.declared.registry.Registry.{Registry}
use Rattle.registry.specs.declared.stage.Stage.{Stage}
use Rattle.registry.specs.declared.stage.Stage.TheVariants.{Live, Removed, Unknown}
use Rattle.registry.specs.Stands.{stages_in}
use Rattle.registry.proofs.Texts.{text_cases}
use Rattle.runtime_history.specs.Sandboxes.{IsLive}
use Rattle.runner.specs.Shared.{AreListed, has, is_live}

-- what is known of one uid changes
pub listed_changed : (old new : Registry) (uids uids' : List (List ℕ)) (at : List ℕ) → AreListed old uids
    → ((u : List ℕ) → u ≢ at → stages_in new u ≡ stages_in old u)
    → ((u : List ℕ) → u ≢ at → has uids' u ≡ has uids u)
    → is_live (stages_in new at) ≡ has uids' at → AreListed new uids'
listed_changed old new uids uids' at listed stages kept here u = elim (text_cases u at) [
  | inl same ↦ subst (λ (v : List ℕ). is_live (stages_in new v) ≡ has uids' v) (sym same) here
  | inr other ↦ ap is_live (stages u other) ∙ listed u ∙ sym (kept u other)
]

pub live_is : {X : Type 0} (s : Stage) (o : Option X) (P : X → Type 0) → IfSome o (λ x. P x × IsLive s)
    → IfNone o (IsLive s → ⊥) → is_live s ≡ is_some o
live_is Unknown None P some none = refl
live_is (Live ready) None P some none = absurd (none tt)
live_is Removed None P some none = refl
live_is Unknown (Some x) P some none = absurd some.1
live_is (Live ready) (Some x) P some none = refl
live_is Removed (Some x) P some none = absurd some.1
