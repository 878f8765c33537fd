-- The place of a fault and the value there, as members of an object of JSON (RFC 8259): this project's own,
-- docs/SEMANTICS.md, "Answers as text and as JSON". No place has a byte that JSON would escape.
use Rattle.std.specs.Prelude.{◌≡◌, ⊤, ℕ, List, [], ◌++◌, codes, Option, Some, None}
use Rattle.std.specs.Fmt.{decimal}
use Rattle.serde_json.specs.Data.{string}
use Rattle.serde_json.specs.Written.{compact_text}
use Rattle.json_place.specs.Parts.{Part}
use Rattle.json_place.specs.Places.{place_text}
use Rattle.json_place.specs.declared.shown.Shown as standing
use Rattle.json_place.specs.declared.shown.Shown.TheVariants as value
use Rattle.fault_notes.specs.Notes.{IsShownAt, kind_of}
use Rattle.fault_notes.specs.declared.named.Kind.{Kind}
use Rattle.fault_notes.specs.declared.named.Kind.TheVariants as kind
use Rattle.fault_notes.specs.declared.named.Named.{Named}
use Rattle.fault_notes.specs.declared.texts.Spot.{Spot}
use Rattle.fault_notes.specs.declared.texts.Spot.TheVariants.{Whole, At}

-- where a text stops being JSON, if the parser has a position
abbrev pub spot_members : Spot → List ℕ
spot_members Whole = []
spot_members (At line column) = codes ",\"line\":" ++ (decimal line ++ (codes ",\"column\":" ++ decimal column))

-- nothing is claimed of other numbers, whose text is serde_json's
abbrev pub IsValue : Option standing.Shown → List ℕ → Type 0
IsValue None text = text ≡ []
IsValue (Some (value.Text told)) text = text ≡ codes ",\"value\":" ++ compact_text (string told.now)
IsValue (Some (value.Whole told)) text = text ≡ codes ",\"value\":" ++ decimal told
IsValue (Some (value.Other told)) text = ⊤

-- the place, and what is shown of the value there
abbrev pub ArePlaced : List Part → Option standing.Shown → List ℕ → Type 0
ArePlaced place shown text = (member : List ℕ) × IsValue shown member
    × (text ≡ codes ",\"place\":\"" ++ (place_text place ++ (codes "\"" ++ member)))

abbrev pub AreBy : Kind → List ℕ → List Part → List ℕ → Type 0
AreBy kind.NoJson bytes place text = (spot : Spot) × (text ≡ spot_members spot)
AreBy kind.TooLarge bytes place text = text ≡ []
AreBy kind.Placed bytes place text = IsShownAt bytes place (ArePlaced place) text

-- the members on these bytes, which are refused for this fault at this place
abbrev pub AreMembers : List ℕ → Named → List Part → List ℕ → Type 0
AreMembers bytes fault place text = AreBy (kind_of fault) bytes place text
