-- Which removed cells get a record, this project's own: docs/SEMANTICS.md, "Records of containers".
use Rattle.std.specs.Prelude.{◌≡◌, ℕ, Bool, true, false}
use Rattle.cell_records.specs.declared.tallies.RecordCalls.{RecordCalls}
use Rattle.cell_records.specs.declared.tallies.RecordCalls.TheVariants.{All, Denied}
use Rattle.runtime_cell.specs.declared.cell.State.{State}
use Rattle.runtime_cell.specs.declared.cell.State.TheVariants.{Exited}

-- the script ended by itself: its last step showed the cell to the recorder
abbrev pub HasEndedAlone : State → Type 0
HasEndedAlone state = (code : ℕ) × (state ≡ Exited code false)

-- which calls the records list
abbrev pub calls_of : Bool → RecordCalls
calls_of true = All
calls_of false = Denied
