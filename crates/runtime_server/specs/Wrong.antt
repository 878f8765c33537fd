-- The report on a file for which a creation is refused, this project's own: docs/SEMANTICS.md, "Programs".
use Rattle.std.specs.Prelude.{◌≡◌, ◌⊎◌, ℕ, Bool, true, false, List, ◌++◌, codes, string_bytes, Option, Some, None, ⊤}
use Rattle.cri_msgs.specs.declared.calls.Call.{Call}
use Rattle.cri_msgs.specs.declared.calls.Call.TheVariants.{CreateContainer}
use Rattle.cri_msgs.specs.declared.refusals.Refusal.{Refusal}
use Rattle.cri_msgs.specs.declared.refusals.Refusal.TheVariants as refusal
use Rattle.cri_msgs.specs.declared.replies.Answer.{Answer}
use Rattle.cri_msgs.specs.declared.replies.Answer.TheVariants as answer
use Rattle.std.specs.declared.string.String.{String}
use Rattle.creation.specs.Made.{FileText, IsProfileOf}
use Rattle.oci_profile.specs.Reading.{first_fault_at}
use Rattle.oci_profile.specs.declared.placed.ProfileFaultAt.{ProfileFaultAt}
use Rattle.oci_profile.specs.declared.profile.Profile.{Profile}
use Rattle.script.specs.Reading.{IsFirstFaultAt}
use Rattle.script.specs.declared.placed.ScriptFaultAt.{ScriptFaultAt}
use Rattle.fault_notes.specs.Notes.{IsNote}
use Rattle.fault_notes.specs.Paths.{shown_path}
use Rattle.fault_notes.specs.declared.named.Named.TheVariants as named
use Rattle.refusal_causes.specs.declared.causes.Cause.{Cause}
use Rattle.wrong_files.specs.HintText.{hint_after}
use Rattle.wrong_files.specs.Hints.{IsHint, hints_for}
use Rattle.wrong_files.specs.declared.hint.Hint.{Hint}
use Rattle.wrong_files.specs.declared.hint.Wanted.{Wanted}
use Rattle.wrong_files.specs.declared.hint.Wanted.TheVariants as wanted
use Rattle.runtime_server.specs.declared.diagnosis.FileKind.{FileKind}
use Rattle.runtime_server.specs.declared.diagnosis.FileKind.TheVariants as kind
use Rattle.runtime_server.specs.declared.diagnosis.Wrong.{Wrong}

-- the file's name, the note on the text, and the hint on what its bytes seem to be
pub record Tells (path bytes note : List ℕ) (wanted : Wanted) (text : List ℕ) : Type 0 where
  pub hint : Option Hint
  pub is_hint : IsHint bytes (hints_for wanted) hint
  pub is : text ≡ shown_path path ++ (note ++ hint_after hint)

-- the first fault of this text with its place and the value there
abbrev pub TellsScript : {Y : Type 0} → List ℕ → FileText → Option (String Y) → Type 0
TellsScript path file None = ⊤
TellsScript path file (Some text) =
    (found : ScriptFaultAt) × IsFirstFaultAt file.calls file.bytes found
    × ((note : List ℕ) × IsNote file.bytes (named.Script found.fault) found.place note
    × Tells path file.bytes note wanted.Script (string_bytes text))

-- the same for a profile, or that it is too heavy
abbrev pub TellsProfile : {Y : Type 0} → List ℕ → FileText → Option (String Y) → Type 0
TellsProfile path file None = ⊤
TellsProfile path file (Some text) =
    ((profile : Profile) × IsProfileOf file profile × (string_bytes text ≡ shown_path path
    ++ codes ": TooLong"))
    ⊎ ((found : ProfileFaultAt) × (first_fault_at file.calls file.bytes ≡ Some found)
    × ((note : List ℕ) × IsNote file.bytes (named.Profile found.fault) found.place note
    × Tells path file.bytes note wanted.Profile (string_bytes text)))

abbrev pub kind_text : FileKind → List ℕ
kind_text kind.Script = codes "script "
kind_text kind.Profile = codes "profile "

-- the kind of the file, and the note on it
abbrev pub cause_text : Wrong → List ℕ
cause_text wrong = kind_text wrong.kind ++ string_bytes wrong.text

-- why a request with this number and a bad file is refused
abbrev pub cause_in : ℕ → Call → Wrong → Option Cause
cause_in number (CreateContainer key image profile) wrong = Some (record {
  number = number;
  uid = key.uid;
  name = key.container.name;
  text = cause_text wrong;
})
cause_in number call wrong = None

-- whether a refusal may be due to a bad file
abbrev pub is_refusal_of_files : Refusal → Bool
is_refusal_of_files refusal.InvalidArgument = true
is_refusal_of_files refusal.Internal = true
is_refusal_of_files refusal.NotFound = false
is_refusal_of_files refusal.AlreadyExists = false
is_refusal_of_files refusal.ResourceExhausted = false
is_refusal_of_files refusal.FailedPrecondition = false
is_refusal_of_files refusal.Memory = false

-- whether an answer may be due to a bad file
abbrev pub is_of_files : Answer → Bool
is_of_files (answer.Refused refusal) = is_refusal_of_files refusal
is_of_files answer.Done = false
is_of_files (answer.Container id) = false
is_of_files (answer.Status status) = false
is_of_files (answer.List listing) = false
is_of_files (answer.Statuses statuses) = false
