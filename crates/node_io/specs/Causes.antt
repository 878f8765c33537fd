-- Why the system refuses a call on a file, a folder or a socket, by its number (errno(3)) or by std's kind of
-- that, and the words for it, this project's own: docs/SEMANTICS.md, "Programs".
use Rattle.std.specs.Prelude.{ℕ, ℤ, ◌==◌, ◌||◌, unsigned_abs, if◌then◌else◌, List, ◌++◌, codes, Option, Some}
use Rattle.std.specs.Prelude.{None}
use Rattle.std.specs.Fmt.{decimal}
use Rattle.std.specs.declared.io.ErrorKind.{ErrorKind}
use Rattle.std.specs.declared.io.ErrorKind.TheVariants as kind
use Rattle.node_io.specs.declared.causes.Cause.{Cause}
use Rattle.node_io.specs.declared.faults.CausedFault.{CausedFault}
use Rattle.node_io.specs.declared.faults.FileFault.{FileFault}
use Rattle.node_io.specs.declared.faults.FileFault.TheVariants as fault
use Rattle.node_io.specs.declared.causes.Cause.TheVariants.{NotFound, NoFolder, PermissionDenied, IsFolder}
use Rattle.node_io.specs.declared.causes.Cause.TheVariants.{NotFolder, NotRegular, Outside, NameTooLong}
use Rattle.node_io.specs.declared.causes.Cause.TheVariants.{TooManyLinks, TooManyFiles, NoSpace, Quota}
use Rattle.node_io.specs.declared.causes.Cause.TheVariants.{ReadOnly, Busy, Device, NotOpen, Interrupted}
use Rattle.node_io.specs.declared.causes.Cause.TheVariants.{WouldBlock, Refused, Gone, TimedOut, Number}
use Rattle.node_io.specs.declared.causes.Cause.TheVariants.{Other}

-- EIO, EBADF, ENFILE, EMFILE
abbrev pub cause_numbered : ℕ → Cause
cause_numbered number =
    if number == 5 then Device else (if number == 9 then NotOpen
    else (if number == 23 || number == 24 then TooManyFiles else Number number))

abbrev pub by_number : Option ℤ → Cause
by_number None = Other
by_number (Some number) = cause_numbered (unsigned_abs number)

abbrev pub cause_of : ErrorKind → Option ℤ → Cause
cause_of kind.NotFound number = NotFound
cause_of kind.PermissionDenied number = PermissionDenied
cause_of kind.IsADirectory number = IsFolder
cause_of kind.NotADirectory number = NotFolder
cause_of kind.InvalidFilename number = NameTooLong
cause_of kind.FilesystemLoop number = TooManyLinks
cause_of kind.StorageFull number = NoSpace
cause_of kind.QuotaExceeded number = Quota
cause_of kind.ReadOnlyFilesystem number = ReadOnly
cause_of kind.ExecutableFileBusy number = Busy
cause_of kind.Interrupted number = Interrupted
cause_of kind.WouldBlock number = WouldBlock
cause_of kind.ConnectionRefused number = Refused
cause_of kind.BrokenPipe number = Gone
cause_of kind.ConnectionReset number = Gone
cause_of kind.TimedOut number = TimedOut
cause_of _ number = by_number number

-- the cause on a stream with a time limit
abbrev pub waited : Cause → Cause
waited WouldBlock = TimedOut
waited cause = cause

abbrev pub cause_text : Cause → List ℕ
cause_text NotFound = codes "no such file"
cause_text NoFolder = codes "no such folder"
cause_text PermissionDenied = codes "permission denied"
cause_text IsFolder = codes "is a directory"
cause_text NotFolder = codes "not a directory"
cause_text NotRegular = codes "not a regular file"
cause_text Outside = codes "a link out of the folder"
cause_text NameTooLong = codes "name too long"
cause_text TooManyLinks = codes "too many symbolic links"
cause_text TooManyFiles = codes "too many open files"
cause_text NoSpace = codes "no space left on device"
cause_text Quota = codes "disk quota exceeded"
cause_text ReadOnly = codes "read-only file system"
cause_text Busy = codes "text file busy"
cause_text Device = codes "input/output error"
cause_text NotOpen = codes "not open for that"
cause_text Interrupted = codes "interrupted"
cause_text WouldBlock = codes "resource temporarily unavailable"
cause_text Refused = codes "connection refused"
cause_text Gone = codes "connection closed by the other side"
cause_text TimedOut = codes "timed out"
cause_text (Number number) = codes "error " ++ decimal number
cause_text Other = codes "unknown error"

-- a failure with this cause
abbrev pub failed_by : Cause → CausedFault
failed_by cause = record { fault = fault.Failed; cause = Some cause }

-- a fault that is a cause of its own
abbrev pub by_itself : FileFault → CausedFault
by_itself of = record { fault = of; cause = None }

abbrev pub caused_by : ErrorKind → Option ℤ → CausedFault
caused_by kind.NotFound number = by_itself fault.NotFound
caused_by kind.OutOfMemory number = by_itself fault.Memory
caused_by of number = failed_by (cause_of of number)
