-- The note on a refused text, after the name of its file: this project's own, docs/SEMANTICS.md, "Programs".
use Rattle.std.specs.Prelude.{◌≡◌, ℕ, List, [], ◌∷◌, ◌++◌, ◌==◌, length, Bool, true, false, if◌then◌else◌}
use Rattle.std.specs.Prelude.{codes, Option, Some, None, option_map, option_and_then, IfSome}
use Rattle.std.specs.Fmt.{decimal}
use Rattle.serde_json.specs.Data.{Data}
use Rattle.json_tree.specs.Tree.{tree_of}
use Rattle.json_place.specs.Parts.{Part}
use Rattle.json_place.specs.Places.{place_text}
use Rattle.json_place.specs.Shown.{IsShown, shown_text, stands_at}
use Rattle.json_place.specs.declared.shown.Shown as standing
use Rattle.manifest.specs.Faults.{fault_text as pod_fault_text}
use Rattle.manifest.specs.declared.faults.PodFault.TheVariants as pod
use Rattle.oci_profile.specs.Faults.{fault_text as profile_fault_text}
use Rattle.oci_profile.specs.declared.faults.ProfileFault.TheVariants as profile
use Rattle.profile_template.specs.Faults.{fault_text as template_fault_text}
use Rattle.profile_template.specs.declared.faults.TemplateFault.TheVariants as template
use Rattle.script.specs.FaultText.{fault_text as script_fault_text}
use Rattle.script.specs.declared.faults.ScriptFault.TheVariants as script
use Rattle.fault_notes.specs.CallHints.{hint_after, unknown_name}
use Rattle.fault_notes.specs.Starts.{begins_yaml}
use Rattle.fault_notes.specs.declared.named.Kind.{Kind}
use Rattle.fault_notes.specs.declared.named.Kind.TheVariants as kind
use Rattle.fault_notes.specs.declared.named.Named.{Named}
use Rattle.fault_notes.specs.declared.named.Named.TheVariants.{Profile, Template, LeftOut, Manifest, Script}
use Rattle.fault_notes.specs.declared.texts.Spot.{Spot}
use Rattle.fault_notes.specs.declared.texts.Spot.TheVariants.{Whole, At}
use Rattle.fault_notes.specs.declared.texts.TextNote.{TextNote}

abbrev pub named_text : Named → List ℕ
named_text (Profile fault) = profile_fault_text fault
named_text (Template fault) = template_fault_text fault
named_text LeftOut = codes "LeftOut"
named_text (Manifest fault) = pod_fault_text fault
named_text (Script fault) = script_fault_text fault

-- what a note can show besides the fault
abbrev pub kind_of : Named → Kind
kind_of (Profile profile.NotJson) = kind.NoJson
kind_of (Template (template.Profile profile.NotJson)) = kind.NoJson
kind_of (Manifest pod.NotJson) = kind.NoJson
kind_of (Script script.NotJson) = kind.NoJson
kind_of (Profile profile.TooLarge) = kind.TooLarge
kind_of (Template (template.Profile profile.TooLarge)) = kind.TooLarge
kind_of _ = kind.Placed

-- the hint after the fault of a text that is not JSON
abbrev pub yaml_text : Bool → List ℕ
yaml_text true = codes " (YAML? yq -o=json makes JSON of it)"
yaml_text false = []

-- where a text stops being JSON
abbrev pub spot_text : Spot → List ℕ
spot_text Whole = []
spot_text (At line column) = codes ": line " ++ (decimal line ++ (codes ", column " ++ decimal column))

abbrev pub no_json_text : Spot → Named → Bool → List ℕ
no_json_text spot fault is_yaml = spot_text spot ++ (codes ": " ++ (named_text fault ++ yaml_text is_yaml))

abbrev pub text_note : TextNote → List ℕ
text_note note = no_json_text note.spot note.fault note.hint.is_yaml

-- the place after the file's path, unless it is that of the whole text
abbrev pub behind_text : List Part → List ℕ
behind_text [] = []
behind_text (part ∷ parts) = codes ": " ++ place_text (part ∷ parts)

-- what was wanted, after the text that joins it to the words before it
abbrev pub wanted_text : List ℕ → List ℕ → List ℕ
wanted_text join wanted = if length wanted == 0 then [] else join ++ (codes "wanted " ++ wanted)

-- the value there, if it is a text or a number, what was wanted, and the hint on a call's name
abbrev pub standing_text : Named → Option standing.Shown → List ℕ → Option (List ℕ)
standing_text fault None wanted = Some (wanted_text (codes ": ") wanted)
standing_text fault (Some shown) wanted = option_map
    (λ text. codes ": "
    ++ (text ++ (wanted_text (codes ", ") wanted ++ hint_after (unknown_name fault shown))))
    (shown_text shown)

-- the place in the file, the fault's name, the value there and what was wanted
abbrev pub place_note : List Part → Named → Option standing.Shown → List ℕ → Option (List ℕ)
place_note place fault shown wanted = option_map
    (λ text. behind_text place ++ (codes ": " ++ (named_text fault ++ text)))
    (standing_text fault shown wanted)

-- nothing is claimed if a number's text is serde_json's
abbrev pub Says : List Part → Named → Option standing.Shown → List ℕ → Type 0
Says place fault shown text = (wanted : List ℕ)
    × IfSome (place_note place fault shown wanted) (λ known. text ≡ known)

-- what is shown of a value that may be there
abbrev pub IsShownOf : Option Data → Option standing.Shown → Type 0
IsShownOf None shown = shown ≡ None
IsShownOf (Some found) shown = IsShown found shown

-- the text has what is shown of the value at this place in the tree of the bytes
abbrev pub IsShownAt : List ℕ → List Part → (Option standing.Shown → List ℕ → Type 0) → List ℕ → Type 0
IsShownAt bytes place Are text = (shown : Option standing.Shown)
    × IsShownOf (option_and_then (stands_at place) (tree_of bytes)) shown × Are shown text

-- the value at the fault's place in the text's tree is shown
abbrev pub IsPlaceNote : List ℕ → Named → List Part → List ℕ → Type 0
IsPlaceNote bytes fault place text = IsShownAt bytes place (Says place fault) text

abbrev pub IsNoteBy : Kind → List ℕ → Named → List Part → List ℕ → Type 0
IsNoteBy kind.NoJson bytes fault place text = (spot : Spot)
    × (text ≡ no_json_text spot fault (begins_yaml bytes))
IsNoteBy kind.TooLarge bytes fault place text = text ≡ codes ": " ++ named_text fault
IsNoteBy kind.Placed bytes fault place text = IsPlaceNote bytes fault place text

-- the note on these bytes, which are refused for this fault at this place
abbrev pub IsNote : List ℕ → Named → List Part → List ℕ → Type 0
IsNote bytes fault place text = IsNoteBy (kind_of fault) bytes fault place text
