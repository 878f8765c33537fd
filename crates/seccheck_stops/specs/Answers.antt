-- What a program prints of a stop that is its answer: this project's own, docs/SEMANTICS.md, "Programs".
use Rattle.std.specs.Prelude.{◌≡◌, ℕ, List, [], ◌++◌, IfSome}
use Rattle.seccheck_stops.specs.AnswerObjects.{IsObjectOf}
use Rattle.seccheck_stops.specs.NoteText.{IsNoteLine}
use Rattle.seccheck_stops.specs.StopText.{stop_text}
use Rattle.seccheck_stops.specs.declared.form.Form.{Form}
use Rattle.seccheck_stops.specs.declared.form.Form.TheVariants.{Text, Json}
use Rattle.seccheck_stops.specs.declared.stop.Stop.{Stop}
use Rattle.seccheck_stops.specs.declared.stop.Stop.TheVariants as why

-- on standard output, if the text is not clap's
abbrev pub IsAnswer : Form → Stop → List ℕ → Type 0
IsAnswer Text stop text = IfSome (stop_text stop) (λ known. text ≡ known)
IsAnswer Json stop text = IsObjectOf stop text

-- the line on the file that is refused, if one is
abbrev pub IsNoteOn : Stop → List ℕ → Type 0
IsNoteOn (why.Refused file) note = IsNoteLine file note
IsNoteOn stop note = note ≡ []

-- on standard error, after these lines
abbrev pub IsBeside : Stop → List ℕ → List ℕ → Type 0
IsBeside stop lines aside = (note : List ℕ) × IsNoteOn stop note × (aside ≡ lines ++ note)
