-- The message of a program that serves a runtime and ends before its work is done, this project's own:
-- docs/SEMANTICS.md, "Programs". A refused command line has none here: its text is clap's.
use Rattle.std.specs.Prelude.{ℕ, Bool, true, false, if◌then◌else◌, List, [], ◌++◌, codes, Option, Some, None}
use Rattle.std.specs.Fmt.{decimal}
use Rattle.bpf_code.specs.declared.fault.CodeFault.{CodeFault}
use Rattle.bpf_code.specs.declared.fault.CodeFault.TheVariants as code
use Rattle.bpf_verify.specs.declared.fault.Fault.{Fault}
use Rattle.bpf_verify.specs.declared.fault.Fault.TheVariants as fault
use Rattle.bpf_verify.specs.declared.refusal.Refusal.{Refusal}
use Rattle.bpf_verify.specs.declared.refusal.Refusal.TheVariants as refused
use Rattle.command_line.specs.Faults.{misfit_text}
use Rattle.fault_notes.specs.Paths.{shown_path}
use Rattle.node_io.specs.Causes.{cause_text}
use Rattle.node_io.specs.declared.causes.Cause.{Cause}
use Rattle.node_io.specs.declared.causes.Cause.TheVariants.{Gone}
use Rattle.node_io.specs.FaultText.{caused_text}
use Rattle.wrong_files.specs.HintText.{hint_after}
use Rattle.runtime_stops.specs.declared.socket_fault.SocketFault.{SocketFault}
use Rattle.runtime_stops.specs.declared.socket_fault.SocketFault.TheVariants as socket
use Rattle.runtime_stops.specs.declared.socket_fault.TheConstants.{MAX_NAME}
use Rattle.runtime_stops.specs.declared.stops.ServerStop.{ServerStop}
use Rattle.runtime_stops.specs.declared.stops.ServerStop.TheVariants.{CommandLine, BadNumber, Misfit}
use Rattle.runtime_stops.specs.declared.stops.ServerStop.TheVariants.{Baseline, File, Socket, Unwritten}
use Rattle.runtime_stops.specs.declared.stops.ServerStop.TheVariants.{Memory, UnknownCommand}

-- the name of a filter's fault, without its place
abbrev pub code_fault_name : CodeFault → List ℕ
code_fault_name code.Length = codes "Length"
code_fault_name code.TooLong = codes "TooLong"
code_fault_name (code.BadCode at) = codes "BadCode"
code_fault_name code.Memory = codes "Memory"

abbrev pub filter_fault_name : Fault → List ℕ
filter_fault_name fault.Empty = codes "Empty"
filter_fault_name fault.TooLong = codes "TooLong"
filter_fault_name (fault.BadOffset at) = codes "BadOffset"
filter_fault_name (fault.BadJump at) = codes "BadJump"
filter_fault_name (fault.BadWord at) = codes "BadWord"
filter_fault_name (fault.BadShift at) = codes "BadShift"
filter_fault_name (fault.ZeroDivisor at) = codes "ZeroDivisor"
filter_fault_name fault.NoFinalReturn = codes "NoFinalReturn"
filter_fault_name (fault.Unstored at) = codes "Unstored"

abbrev pub refusal_name : Refusal → List ℕ
refusal_name (refused.Code found) = code_fault_name found
refusal_name (refused.Filter found) = filter_fault_name found

-- why no socket can be made
abbrev pub socket_text : SocketFault → List ℕ
socket_text socket.Listens = codes "a runtime listens there"
socket_text socket.Taken = codes "something else stands there"
socket_text socket.NoFolder = codes "no such folder"
socket_text socket.Empty = codes "empty path"
socket_text socket.TooLong = codes "path too long, at most " ++ (decimal MAX_NAME ++ codes " bytes")
socket_text socket.LockLink = codes "its lock file is a symbolic link"
socket_text socket.LockTaken = codes "its lock file is not a regular file"
socket_text socket.Folders = codes "its folders .new0 to .new99 are taken"
socket_text (socket.System cause) = cause_text cause
socket_text socket.Memory = codes "Memory"

-- whether only the reader is gone
abbrev pub is_gone : Cause → Bool
is_gone Gone = true
is_gone cause = false

abbrev pub unwritten_text : List ℕ → Cause → List ℕ
unwritten_text program cause = if is_gone cause then []
    else program ++ codes ": standard output: Failed (" ++ cause_text cause ++ codes ")\n"

-- the message of the program with this name
abbrev pub stop_text : List ℕ → ServerStop → Option (List ℕ)
stop_text program (CommandLine error) = None
stop_text program (BadNumber word) = Some (program ++ codes ": " ++ shown_path word.now
    ++ codes ": BadNumber\n")
stop_text program (UnknownCommand word) = Some (program ++ codes ": " ++ shown_path word.now
    ++ codes ": UnknownCommand\n")
stop_text program (Misfit word why) = Some (program ++ codes ": " ++ word.now ++ codes ": " ++ misfit_text why
    ++ codes "\n")
stop_text program (Baseline path refusal hint) =
    Some (program ++ codes ": " ++ shown_path path.now ++ codes ": " ++ refusal_name refusal
    ++ hint_after hint ++ codes "\n")
stop_text program (File path caused) = Some
    (program ++ codes ": " ++ shown_path path.now ++ codes ": " ++ caused_text caused ++ codes "\n")
stop_text program (Socket path fault) =
    Some (program ++ codes ": " ++ shown_path path.now ++ codes ": Failed (" ++ socket_text fault
    ++ codes ")\n")
stop_text program (Unwritten cause) = Some (unwritten_text program cause)
stop_text program Memory = Some (program ++ codes ": Memory\n")
