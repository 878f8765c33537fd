-- Why a program that serves a runtime ends before its work is done, from the fault that it met, and its exit
-- status: this project's own. docs/SEMANTICS.md, "Programs".
use Rattle.std.specs.Prelude.{◌≡◌, ℕ, ℤ, List, Option}
use Rattle.std.specs.declared.io.ErrorKind.{ErrorKind}
use Rattle.std.specs.declared.io.ErrorKind.TheVariants as kind
use Rattle.command_line.specs.declared.fault.LineFault.{LineFault}
use Rattle.command_line.specs.declared.fault.LineFault.TheVariants as line
use Rattle.node_io.specs.Causes.{cause_of}
use Rattle.node_io.specs.declared.faults.CausedFault.{CausedFault}
use Rattle.node_io.specs.declared.faults.FileFault.{FileFault}
use Rattle.node_io.specs.declared.faults.FileFault.TheVariants as file
use Rattle.runtime_stops.specs.declared.socket_fault.SocketFault.{SocketFault}
use Rattle.runtime_stops.specs.declared.socket_fault.SocketFault.TheVariants as socket
use Rattle.runtime_stops.specs.declared.stops.ServerStop.{ServerStop}
use Rattle.runtime_stops.specs.declared.stops.ServerStop.TheVariants.{CommandLine, BadNumber, Misfit}
use Rattle.runtime_stops.specs.declared.stops.ServerStop.TheVariants.{Baseline, File, Socket, Unwritten}
use Rattle.runtime_stops.specs.declared.stops.ServerStop.TheVariants.{Memory, UnknownCommand}

abbrev pub status_of : ServerStop → ℕ
status_of (Baseline path refusal hint) = 1
status_of (CommandLine error) = 2
status_of (BadNumber word) = 2
status_of (UnknownCommand word) = 2
status_of (Misfit word why) = 2
status_of (File path caused) = 3
status_of (Socket path fault) = 3
status_of (Unwritten cause) = 3
status_of Memory = 4

-- a command line is refused
abbrev pub of_line_fault : LineFault → ServerStop
of_line_fault (line.Refused error) = CommandLine error
of_line_fault (line.BadNumber word) = BadNumber word
of_line_fault (line.UnknownCommand word) = UnknownCommand word
of_line_fault (line.Misfit word why) = Misfit word why
of_line_fault line.Memory = Memory

-- a file can't be read
abbrev pub IsOfFault : List ℕ → CausedFault → FileFault → ServerStop → Type 0
IsOfFault path caused file.Memory stop = stop ≡ Memory
IsOfFault path caused fault (File word told) = (word.now ≡ path) × (told ≡ caused)
IsOfFault path caused fault stop = ⊥

abbrev pub IsOfFile : List ℕ → CausedFault → ServerStop → Type 0
IsOfFile path caused stop = IsOfFault path caused caused.fault stop

-- no socket can be made at a path
abbrev pub IsOfSocket : List ℕ → SocketFault → ServerStop → Type 0
IsOfSocket path socket.Memory stop = stop ≡ Memory
IsOfSocket path fault (Socket word told) = (word.now ≡ path) × (told ≡ fault)
IsOfSocket path fault stop = ⊥

-- the system refuses a call for a socket
abbrev pub of_error : ErrorKind → Option ℤ → SocketFault
of_error kind.NotFound number = socket.NoFolder
of_error kind.OutOfMemory number = socket.Memory
of_error of number = socket.System (cause_of of number)
