-- What a call sees of the sandbox to which a cell is added, or is not.
use Rattle.std.proofs.Common.{◌≡◌, ◌∙◌, ℕ, ◌+◌, List, [], ◌∷◌, ◌++◌, Bool, Option, Some, None}
use Rattle.std.proofs.Common.{option_map, refl, ap}
use Rattle.cri_msgs.specs.declared.keys.ContainerMetadata.{ContainerMetadata}
use Rattle.runtime_cell.specs.Cell.{Cell}
use Rattle.registry.specs.declared.known.Known.{Known}
use Rattle.registry.specs.declared.known.Known.TheVariants as known
use Rattle.registry.specs.declared.registry.Registry.{Registry}
use Rattle.registry.specs.declared.stage.Stage.TheVariants as stage
use Rattle.registry.specs.Kept.{known_in, stage_of, with_used}
use Rattle.registry.specs.Serves.{grown}
use Rattle.registry.specs.Stands.{IsPlaced, IsUnplaced, part_by, part_in, stages_in}

grown_by : (k : Option Known) (made : ℕ) (cells : List Cell) (container : ContainerMetadata) (cell : Cell)
    (ready : Bool) → stage_of k ≡ stage.Live ready
    → part_by (made + 1) (option_map (with_used container) k) (cells ++ cell ∷ [])
    ≡ grown (part_by made k cells) container cell
grown_by None made cells container cell ready is = absurd cc
grown_by (Some (known.Live live)) made cells container cell ready is = refl
grown_by (Some known.Removed) made cells container cell ready is = absurd cc

pub placed_part : (old new : Registry) (uid : List ℕ) (container : ContainerMetadata) (id : ℕ)
    (cells behind : List Cell) (cell : Cell) (ready : Bool) → IsPlaced old new uid container id
    → id ≡ old.made + 1 → behind ≡ cells ++ cell ∷ [] → stages_in old uid ≡ stage.Live ready
    → part_in new uid behind ≡ grown (part_in old uid cells) container cell
placed_part old new uid container id cells behind cell ready placed next comes live =
    ap (λ m. part_by m (known_in new.uids uid) behind) (placed.made ∙ next)
    ∙ ap (λ k. part_by (old.made + 1) k behind) placed.here
    ∙ ap (part_by (old.made + 1) (option_map (with_used container) (known_in old.uids uid))) comes
    ∙ grown_by (known_in old.uids uid) old.made cells container cell ready live

pub unplaced_part : (old new : Registry) (uid : List ℕ) (before behind : List Cell) → IsUnplaced old new
    → behind ≡ before → part_in new uid behind ≡ part_in old uid before
unplaced_part old new uid before behind same still =
    ap (λ m. part_by m (known_in new.uids uid) behind) same.made
    ∙ ap (λ k. part_by old.made k behind) (same.known uid) ∙ ap (part_in old uid) still
