-- Why a command line is refused, this project's own: docs/SEMANTICS.md, "Programs".
use Rattle.std.specs.Prelude.{◌≡◌, ◌≢◌, List, [], ℕ, codes, Result, Err, Option, Some, None}
use Rattle.clap.specs.Kinds.{IsAmong, Kinds}
use Rattle.clap.specs.Values.{kind_of}
use Rattle.clap.specs.declared.error.Error.{Error}
use Rattle.clap.specs.declared.error.kind.ErrorKind.TheVariants as kind
use Rattle.command_line.specs.declared.fault.LineFault.{LineFault}
use Rattle.command_line.specs.declared.fault.LineFault.TheVariants.{Refused, BadNumber, Misfit as Unfit}
use Rattle.command_line.specs.declared.fault.LineFault.TheVariants.{Memory, UnknownCommand}
use Rattle.command_line.specs.declared.fault.Misfit.{Misfit}
use Rattle.command_line.specs.declared.fault.Misfit.TheVariants.{WithoutRuntime, WithoutSettle, WithSettle}
use Rattle.command_line.specs.declared.fault.Misfit.TheVariants.{WithoutPods, NothingToTell, Missing}
use Rattle.command_line.specs.declared.fault.Misfit.TheVariants.{WithoutRecords, BadCalls}

abbrev pub misfit_text : Misfit → List ℕ
misfit_text WithoutRuntime = codes "WithoutRuntime"
misfit_text WithoutSettle = codes "WithoutSettle"
misfit_text WithSettle = codes "WithSettle"
misfit_text WithoutPods = codes "WithoutPods"
misfit_text NothingToTell = codes "NothingToTell"
misfit_text WithoutRecords = codes "WithoutRecords"
misfit_text BadCalls = codes "BadCalls"
misfit_text Missing = codes "Missing"

-- out of memory is reported as such, wherever it occurs
abbrev pub IsOfClap : Error → LineFault → Type 0
IsOfClap error fault = (kind_of error ≡ kind.OutOfMemory → fault ≡ Memory)
    × (kind_of error ≢ kind.OutOfMemory → fault ≡ Refused error)

-- a refusal by clap is of one of these kinds, and there are none if clap takes the words; or memory ran out
abbrev pub IsRefusal : Kinds → LineFault → Type 0
IsRefusal kinds (BadNumber word) = ⊥
IsRefusal kinds (UnknownCommand word) = ⊥
IsRefusal kinds (Unfit word why) = ⊥
IsRefusal kinds (Refused error) = (kind_of error ≢ kind.OutOfMemory) × IsAmong (kind_of error) kinds
IsRefusal kinds Memory = Unit {0}

-- if clap takes the words, one that does not go with the others is reported first, and then the first word
-- that is not a number in its range
abbrev pub TellsFault : {Said : Type 0} → Kinds → Option (List ℕ × Misfit) → Result Said (List ℕ) → LineFault
    → Type 0
TellsFault kinds misfit said (Unfit word why) = (kinds ≡ []) × (misfit ≡ Some (word.now, why))
TellsFault kinds misfit said (BadNumber word) = (kinds ≡ []) × (misfit ≡ None) × (said ≡ Err word.now)
TellsFault kinds misfit said fault = IsRefusal kinds fault
