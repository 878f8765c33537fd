-- Why a program ends before its work is done, from the fault that was met: running out of memory is reported as
-- that, wherever it happens; and the status with which it ends. This project's own: docs/SEMANTICS.md, "Programs".
use Rattle.std.specs.Prelude.{◌≡◌, ◌≢◌, ℕ, List, Bool, true, false}
use Rattle.node_io.specs.declared.faults.CausedFault.{CausedFault}
use Rattle.node_io.specs.declared.faults.FileFault.{FileFault}
use Rattle.node_io.specs.declared.faults.FileFault.TheVariants as file
use Rattle.seccheck_stops.specs.declared.stop.Stop.{Stop}
use Rattle.seccheck_stops.specs.declared.stop.Stop.TheVariants as why
use Rattle.clap.specs.Values.{kind_of}
use Rattle.clap.specs.declared.error.Error.{Error}
use Rattle.clap.specs.declared.error.kind.ErrorKind.TheVariants as kind

-- the command line is refused
abbrev pub IsOfCommandLine : Error → Stop → Type 0
IsOfCommandLine error stop = (kind_of error ≡ kind.OutOfMemory → stop ≡ why.Memory)
    × (kind_of error ≢ kind.OutOfMemory → stop ≡ why.CommandLine error)

-- a file can't be read or written
abbrev pub IsOfFault : List ℕ → CausedFault → FileFault → Stop → Type 0
IsOfFault path caused file.Memory stop = stop ≡ why.Memory
IsOfFault path caused fault (why.File word told) = (word.now ≡ path) × (told ≡ caused)
IsOfFault path caused fault stop = ⊥

abbrev pub IsOfFile : List ℕ → CausedFault → Stop → Type 0
IsOfFile path caused stop = IsOfFault path caused caused.fault stop

-- input refused, and filters that differ or may differ 1; command line refused 2; a file that can't be read,
-- and what can't be written 3; out of memory 4
abbrev pub status_of : Stop → ℕ
status_of (why.Refused file) = 1
status_of (why.Differ difference) = 1
status_of (why.Undecided doubt) = 1
status_of (why.CommandLine error) = 2
status_of (why.BadNumber word) = 2
status_of (why.BadCall known word) = 2
status_of (why.BadWord word fault) = 2
status_of (why.File path fault) = 3
status_of (why.SameFile path) = 3
status_of (why.Unwritten cause) = 3
status_of why.Memory = 4

-- that input is refused, or differs, is the program's answer
abbrev pub is_refusal : Stop → Bool
is_refusal (why.Refused file) = true
is_refusal (why.Differ difference) = true
is_refusal (why.Undecided doubt) = true
is_refusal (why.CommandLine error) = false
is_refusal (why.BadNumber word) = false
is_refusal (why.BadCall known word) = false
is_refusal (why.BadWord word fault) = false
is_refusal (why.File path fault) = false
is_refusal (why.SameFile path) = false
is_refusal (why.Unwritten cause) = false
is_refusal why.Memory = false
