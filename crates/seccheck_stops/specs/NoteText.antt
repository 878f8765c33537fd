-- The line on standard error about a file that is refused, this project's own: docs/SEMANTICS.md, "Programs".
use Rattle.std.specs.Prelude.{◌≡◌, ◌*◌, ℕ, List, [], ◌∷◌, ◌++◌, codes, take, drop, Option, Some, None, IfSome}
use Rattle.std.specs.Fmt.{decimal}
use Rattle.bpf_code.specs.Code.{bytes_of_code}
use Rattle.bpf_code.specs.Text.{text_of}
use Rattle.bpf_code.specs.declared.fault.CodeFault.TheVariants as code
use Rattle.bpf_code.specs.declared.insn.Insn.{Insn}
use Rattle.bpf_verify.specs.declared.fault.Fault.TheVariants as fault
use Rattle.bpf_verify.specs.declared.refusal.Refusal.{Refusal}
use Rattle.bpf_verify.specs.declared.refusal.Refusal.TheVariants.{Code, Filter}
use Rattle.compile.specs.FaultText.{fault_text as compile_fault_text}
use Rattle.verdict.specs.FaultText.{fault_text as stack_fault_text}
use Rattle.fault_notes.specs.Notes.{IsNote}
use Rattle.fault_notes.specs.Paths.{shown_path}
use Rattle.fault_notes.specs.declared.named.Named.TheVariants as named
use Rattle.wrong_files.specs.HintText.{hint_after}
use Rattle.wrong_files.specs.Hints.{IsHint, filter_hints, hints_for}
use Rattle.wrong_files.specs.declared.hint.Hint.{Hint}
use Rattle.wrong_files.specs.declared.hint.Wanted.TheVariants as wanted
use Rattle.seccheck_stops.specs.Refused.{fault_of}
use Rattle.seccheck_stops.specs.declared.notes.Spot.{Spot}
use Rattle.seccheck_stops.specs.declared.notes.Spot.TheVariants.{Whole, At}
use Rattle.seccheck_stops.specs.declared.refused.Refused.{Refused}
use Rattle.seccheck_stops.specs.declared.refused.Refused.TheVariants as refused
use Rattle.seccheck_stops.specs.declared.refused.RefusedFile.{RefusedFile}

-- a filter's fault without its place
abbrev pub refusal_name : Refusal → List ℕ
refusal_name (Code code.Length) = codes "Length"
refusal_name (Code code.TooLong) = codes "TooLong"
refusal_name (Code (code.BadCode at)) = codes "BadCode"
refusal_name (Code code.Memory) = codes "Memory"
refusal_name (Filter fault.Empty) = codes "Empty"
refusal_name (Filter fault.TooLong) = codes "TooLong"
refusal_name (Filter (fault.BadOffset at)) = codes "BadOffset"
refusal_name (Filter (fault.BadJump at)) = codes "BadJump"
refusal_name (Filter (fault.BadWord at)) = codes "BadWord"
refusal_name (Filter (fault.BadShift at)) = codes "BadShift"
refusal_name (Filter (fault.ZeroDivisor at)) = codes "ZeroDivisor"
refusal_name (Filter fault.NoFinalReturn) = codes "NoFinalReturn"
refusal_name (Filter (fault.Unstored at)) = codes "Unstored"

-- the place that it has, of an instruction from 0
abbrev pub refusal_spot : Refusal → Spot
refusal_spot (Code (code.BadCode at)) = At at
refusal_spot (Filter (fault.BadOffset at)) = At at
refusal_spot (Filter (fault.BadJump at)) = At at
refusal_spot (Filter (fault.BadWord at)) = At at
refusal_spot (Filter (fault.BadShift at)) = At at
refusal_spot (Filter (fault.ZeroDivisor at)) = At at
refusal_spot (Filter (fault.Unstored at)) = At at
refusal_spot _ = Whole

abbrev pub spot_text : Spot → List ℕ
spot_text Whole = []
spot_text (At place) = codes ": " ++ decimal place

-- the instruction there, if there is one
abbrev pub insn_after : Option Insn → List ℕ
insn_after None = []
insn_after (Some insn) = codes ": " ++ text_of insn

-- the bytes begin with those of the instruction
abbrev pub Begins : List ℕ → Insn → Type 0
Begins bytes insn = (rest : List Insn) × (bytes ≡ bytes_of_code (insn ∷ rest))

-- the instruction is the one at this place of the bytes
abbrev pub IsAt : List ℕ → Spot → Insn → Type 0
IsAt bytes Whole insn = ⊥
IsAt bytes (At place) insn = Begins (take 8 (drop (8 * place) bytes)) insn

-- the place in a filter, the fault's name, and the instruction there
abbrev pub IsFilterNote : List ℕ → Refusal → List ℕ → Type 0
IsFilterNote bytes refusal note = (insn : Option Insn) × IfSome insn (IsAt bytes (refusal_spot refusal))
    × (note ≡ spot_text (refusal_spot refusal) ++ (codes ": " ++ (refusal_name refusal ++ insn_after insn)))

-- the note on these bytes without a hint
abbrev pub IsBareNote : List ℕ → Refused → List ℕ → Type 0
IsBareNote bytes (refused.Filter refusal) note = IsFilterNote bytes refusal note
IsBareNote bytes (refused.StackFilter refusal) note = IsFilterNote bytes refusal note
IsBareNote bytes (refused.Stack told) note = note ≡ codes ": " ++ stack_fault_text told
IsBareNote bytes (refused.Profile found) note = IsNote bytes (named.Profile found.fault) found.place note
IsBareNote bytes (refused.Compile told) note = note ≡ codes ": " ++ compile_fault_text told
IsBareNote bytes (refused.Template found) note = IsNote bytes (named.Template found.fault) found.place note
IsBareNote bytes (refused.Manifest found) note = IsNote bytes (named.Manifest found.fault) found.place note
IsBareNote bytes (refused.Script found) note = IsNote bytes (named.Script found.fault) found.place note

-- the hints that are tried, in their order
abbrev pub hints_on : Refused → List Hint
hints_on (refused.Filter refusal) = filter_hints
hints_on (refused.StackFilter refusal) = filter_hints
hints_on (refused.Stack told) = []
hints_on (refused.Profile found) = hints_for wanted.Profile
hints_on (refused.Compile told) = []
hints_on (refused.Template found) = hints_for wanted.Template
hints_on (refused.Manifest found) = hints_for wanted.Manifest
hints_on (refused.Script found) = hints_for wanted.Script

-- the note on these bytes, with its hint
pub record IsNoteOf (bytes : List ℕ) (told : Refused) (text : List ℕ) : Type 0 where
  pub note : List ℕ
  pub hint : Option Hint
  pub is_note : IsBareNote bytes told note
  pub is_hint : IsHint bytes (hints_on told) hint
  pub is : text ≡ note ++ hint_after hint

-- the file, and the note on its text
abbrev pub file_line : List ℕ → List ℕ → List ℕ
file_line path note = codes "seccheck: " ++ (shown_path path ++ (note ++ codes "\n"))

-- the line on a refused file
abbrev pub IsNoteLine : RefusedFile → List ℕ → Type 0
IsNoteLine file line = (note : List ℕ) × IsNoteOf file.bytes.items file.refused note
    × (line ≡ file_line file.path.now note)

-- the file, and the fault alone
abbrev pub short_line : RefusedFile → List ℕ
short_line file = codes "seccheck: " ++ (shown_path file.path.now ++ (codes ": " ++ (fault_of file.refused
    ++ codes "\n")))
