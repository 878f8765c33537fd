-- A cell that is played to its end. Only private functions cite this.
use Rattle.std.specs.Prelude.{◌≡◌, false}
use Rattle.runtime_cell.specs.declared.cell.State.{State}
use Rattle.runtime_cell.specs.declared.cell.State.TheVariants.{Created, Running, Exited}

-- it was started, and nobody killed it
abbrev pub IsPlaying : State → Type 0
IsPlaying Created = ⊥
IsPlaying Running = Unit {0}
IsPlaying (Exited code killed) = killed ≡ false
