-- If a cell was made, its script's file was read.
use Rattle.std.proofs.Common.{◌≡◌, Result, Ok, Err, refl}
use Rattle.cri_msgs.specs.declared.refusals.Refusal.{Refusal}
use Rattle.runtime_cell.specs.Cell.{Making}
use Rattle.creation.specs.Files.{IsScriptIn}
use Rattle.creation.specs.Made.{FileText}

pub was_read : (found : Result FileText Refusal) (making : Making) → IsScriptIn found making.script
    → (text : FileText) × (found ≡ Ok text)
was_read (Ok text) making is = (text, refl)
was_read (Err refusal) making is = absurd is
