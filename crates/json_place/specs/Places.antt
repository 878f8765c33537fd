-- Places in a JSON text, and how they are printed: this project's own, after the paths of jq.
use Rattle.std.specs.Prelude.{ℕ, List, [], ◌∷◌, ◌++◌, codes, flat_map, take}
use Rattle.std.specs.Fmt.{decimal}
use Rattle.json_place.specs.Parts.{Part, Member, Item}
use Rattle.json_place.specs.declared.place.Step.{Step}
use Rattle.json_place.specs.declared.place.Step.TheVariants as step
use Rattle.json_place.specs.declared.place.TheConstants.{MAX_STEPS}

abbrev pub part_of : Step → Part
part_of (step.Member key) = Member key.now
part_of (step.Item index) = Item index

-- the place, from the outer tree, of a value at this place under the step
abbrev pub within : Part → List Part → List Part
within part place = take MAX_STEPS (part ∷ place)

abbrev pub first_text : Part → List ℕ
first_text (Member key) = key
first_text (Item index) = codes "[" ++ (decimal index ++ codes "]")

abbrev pub behind_text : Part → List ℕ
behind_text (Member key) = codes "." ++ key
behind_text (Item index) = first_text (Item index)

abbrev pub place_text : List Part → List ℕ
place_text [] = []
place_text (part ∷ parts) = first_text part ++ flat_map behind_text parts
