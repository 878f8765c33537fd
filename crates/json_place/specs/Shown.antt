-- The value at a place of a JSON tree (RFC 8259), and what of it is shown to a person: this project's own.
use Rattle.std.specs.Prelude.{◌≡◌, ℕ, List, [], ◌∷◌, slice_get, Option, Some, None, option_and_then}
use Rattle.std.specs.Fmt.{decimal}
use Rattle.serde_json.specs.Data.{Data}
use Rattle.serde_json.specs.View.{number_view}
use Rattle.serde_json.specs.Find.{get, as_number}
use Rattle.json_tree.specs.Tree.{list, text, whole}
use Rattle.json_place.specs.Parts.{Part, Member, Item}
use Rattle.json_place.specs.Quoted.{quoted_text}
use Rattle.json_place.specs.declared.shown.Shown as shown
use Rattle.json_place.specs.declared.shown.Shown.TheVariants.{Text, Whole, Other}

-- the value under one step
abbrev pub step_into : Part → Data → Option Data
step_into (Member key) tree = get key tree
step_into (Item index) tree = option_and_then (λ items. slice_get items index) (list tree)

-- the value under all steps, one after the other
abbrev pub stands_at : List Part → Data → Option Data
stands_at [] tree = Some tree
stands_at (part ∷ parts) tree = option_and_then (stands_at parts) (step_into part tree)

-- nothing is claimed about the text of a number that is negative or not whole: it is serde_json's
abbrev pub shown_text : shown.Shown → Option (List ℕ)
shown_text (Text text) = Some (quoted_text text.now)
shown_text (Whole number) = Some (decimal number)
shown_text (Other number) = None

-- a text and a number are shown, and nothing else
abbrev pub IsShown : Data → Option shown.Shown → Type 0
IsShown tree (Some (Text words)) = text tree ≡ Some words.now
IsShown tree (Some (Whole number)) = whole tree ≡ Some number
IsShown tree (Some (Other number)) = (text tree ≡ None) × (whole tree ≡ None)
    × (as_number tree ≡ Some (number_view number.now))
IsShown tree None = (text tree ≡ None) × (as_number tree ≡ None)
