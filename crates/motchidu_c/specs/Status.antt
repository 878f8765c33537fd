-- The answer for C about a filter, or about two: a number, and a place if the fault has one. This project's
-- own; the numbers are those of enum motchidu_status in include/motchidu.h.
use Rattle.std.specs.Prelude.{ℕ, Option, Some, None}
use Rattle.bpf_code.specs.declared.fault.CodeFault.{CodeFault}
use Rattle.bpf_code.specs.declared.fault.CodeFault.TheVariants as text
use Rattle.bpf_compare.specs.declared.comparison.Comparison.{Comparison}
use Rattle.bpf_compare.specs.declared.comparison.Comparison.TheVariants as found
use Rattle.bpf_compare.specs.declared.comparison.Doubt.{Doubt}
use Rattle.bpf_compare.specs.declared.comparison.Doubt.TheVariants as doubt
use Rattle.bpf_verify.specs.declared.fault.Fault.{Fault}
use Rattle.bpf_verify.specs.declared.fault.Fault.TheVariants as fault
use Rattle.bpf_verify.specs.declared.refusal.Refusal.{Refusal}
use Rattle.bpf_verify.specs.declared.refusal.Refusal.TheVariants.{Code, Filter}
use Rattle.compile.specs.declared.fault.CompileFault.{CompileFault}
use Rattle.compile.specs.declared.fault.CompileFault.TheVariants as compiler
use Rattle.oci_profile.specs.declared.faults.ProfileFault.{ProfileFault}
use Rattle.oci_profile.specs.declared.faults.ProfileFault.TheVariants as profile
use Rattle.profile_template.specs.declared.faults.TemplateFault.{TemplateFault}
use Rattle.profile_template.specs.declared.faults.TemplateFault.TheVariants as template
use Rattle.profile_text.specs.declared.faults.WriteFault.{WriteFault}
use Rattle.profile_text.specs.declared.faults.WriteFault.TheVariants as written
use Rattle.motchidu_c.specs.declared.status.Status.{Status}
use Rattle.motchidu_c.specs.declared.status.Status.TheVariants.{Accepted, Length, TooLong, BadCode, Empty}
use Rattle.motchidu_c.specs.declared.status.Status.TheVariants.{BadOffset, BadJump, BadWord, BadShift}
use Rattle.motchidu_c.specs.declared.status.Status.TheVariants.{ZeroDivisor, NoFinalReturn, Unstored, Memory}
use Rattle.motchidu_c.specs.declared.status.Status.TheVariants.{Lengths, NotJson, NotObject, Missing}
use Rattle.motchidu_c.specs.declared.status.Status.TheVariants.{WrongType, UnknownAction, UnknownOp, BadIndex}
use Rattle.motchidu_c.specs.declared.status.Status.TheVariants.{EmptyNames, RepeatedIndex, ErrnoNotAllowed}
use Rattle.motchidu_c.specs.declared.status.Status.TheVariants.{ErrnoTooLarge, UnknownCall, Notify, TooLarge}
use Rattle.motchidu_c.specs.declared.status.Status.TheVariants.{TooHeavy, NoRoom, Same, Differ, Budget}
use Rattle.motchidu_c.specs.declared.status.Status.TheVariants.{Arithmetic, Both, UnknownErrno, BadKernel}
use Rattle.motchidu_c.specs.declared.status.Status.TheVariants.{UnknownVersion}

abbrev pub number_of : Status → ℕ
number_of Accepted = 0
number_of Length = 1
number_of TooLong = 2
number_of BadCode = 3
number_of Empty = 4
number_of BadOffset = 5
number_of BadJump = 6
number_of BadWord = 7
number_of BadShift = 8
number_of ZeroDivisor = 9
number_of NoFinalReturn = 10
number_of Unstored = 11
number_of Memory = 12
number_of Lengths = 13
number_of NotJson = 14
number_of NotObject = 15
number_of Missing = 16
number_of WrongType = 17
number_of UnknownAction = 18
number_of UnknownOp = 19
number_of BadIndex = 20
number_of EmptyNames = 21
number_of RepeatedIndex = 22
number_of ErrnoNotAllowed = 23
number_of ErrnoTooLarge = 24
number_of UnknownCall = 25
number_of Notify = 26
number_of TooLarge = 27
number_of TooHeavy = 28
number_of NoRoom = 29
number_of Same = 30
number_of Differ = 31
number_of Budget = 32
number_of Arithmetic = 33
number_of Both = 34
number_of UnknownErrno = 35
number_of BadKernel = 36
number_of UnknownVersion = 37

-- the status of a fault of the text
abbrev pub status_of_text : CodeFault → Status
status_of_text text.Length = Length
status_of_text text.TooLong = TooLong
status_of_text (text.BadCode at) = BadCode
status_of_text text.Memory = Memory

-- the status of a fault of the code that a text spells
abbrev pub status_of_code : Fault → Status
status_of_code fault.Empty = Empty
status_of_code fault.TooLong = TooLong
status_of_code (fault.BadOffset at) = BadOffset
status_of_code (fault.BadJump at) = BadJump
status_of_code (fault.BadWord at) = BadWord
status_of_code (fault.BadShift at) = BadShift
status_of_code (fault.ZeroDivisor at) = ZeroDivisor
status_of_code fault.NoFinalReturn = NoFinalReturn
status_of_code (fault.Unstored at) = Unstored

-- the status of a fault of a profile
abbrev pub status_of_profile : ProfileFault → Status
status_of_profile profile.NotJson = NotJson
status_of_profile profile.NotObject = NotObject
status_of_profile profile.Missing = Missing
status_of_profile profile.WrongType = WrongType
status_of_profile profile.UnknownAction = UnknownAction
status_of_profile profile.UnknownOp = UnknownOp
status_of_profile profile.BadIndex = BadIndex
status_of_profile profile.EmptyNames = EmptyNames
status_of_profile profile.RepeatedIndex = RepeatedIndex
status_of_profile profile.ErrnoNotAllowed = ErrnoNotAllowed
status_of_profile profile.ErrnoTooLarge = ErrnoTooLarge
status_of_profile profile.UnknownCall = UnknownCall
status_of_profile profile.Notify = Notify
status_of_profile profile.TooLarge = TooLarge
status_of_profile profile.Memory = Memory

-- why a profile is not compiled
abbrev pub status_of_compile : CompileFault → Status
status_of_compile compiler.TooLong = TooHeavy
status_of_compile compiler.Memory = Memory

-- the status of a fault of a template
abbrev pub status_of_template : TemplateFault → Status
status_of_template (template.Profile fault) = status_of_profile fault
status_of_template template.Both = Both
status_of_template template.UnknownErrno = UnknownErrno
status_of_template template.BadKernel = BadKernel

-- why the profile of a template is not written: no template's profile is without a name
abbrev pub status_of_write : WriteFault → Status
status_of_write written.NoName = TooLarge
status_of_write written.TooLarge = TooLarge
status_of_write written.Memory = Memory

-- why two filters were not compared to the end
abbrev pub status_of_doubt : Doubt → Status
status_of_doubt doubt.Budget = Budget
status_of_doubt doubt.Arithmetic = Arithmetic

-- how two filters compare
abbrev pub status_of_comparison : Comparison → Status
status_of_comparison found.Same = Same
status_of_comparison (found.Differs call one other) = Differ
status_of_comparison (found.Undecided why) = status_of_doubt why

abbrev pub status_of : Refusal → Status
status_of (Code fault) = status_of_text fault
status_of (Filter fault) = status_of_code fault

-- the place of a fault that has one, counted in instructions from 0
abbrev pub place_of : Refusal → Option ℕ
place_of (Code (text.BadCode at)) = Some at
place_of (Filter (fault.BadOffset at)) = Some at
place_of (Filter (fault.BadJump at)) = Some at
place_of (Filter (fault.BadWord at)) = Some at
place_of (Filter (fault.BadShift at)) = Some at
place_of (Filter (fault.ZeroDivisor at)) = Some at
place_of (Filter (fault.Unstored at)) = Some at
place_of _ = None

-- that place, or the old value
abbrev pub or_before : Option ℕ → ℕ → ℕ
or_before (Some at) before = at
or_before None before = before

abbrev pub place_or : Refusal → ℕ → ℕ
place_or refusal before = or_before (place_of refusal) before
