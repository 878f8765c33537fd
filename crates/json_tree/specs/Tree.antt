-- What a reader tests of a JSON tree (RFC 8259): of the tree that `serde_json` reads from a text. A kind
-- returns a tree's value if the tree is of that kind: `Data → Option A`.
use Rattle.std.specs.Prelude.{ℕ, ◌^◌, List, [], ◌∷◌, Bool, nat_lt, if◌then◌else◌, is_some, Option, Some, None}
use Rattle.std.specs.Prelude.{option_map, option_and_then}
use Rattle.std.specs.Str.{is_utf8}
use Rattle.serde_json.specs.Data as json
use Rattle.serde_json.specs.Data.{Data, Items}
use Rattle.serde_json.specs.Find.{get, as_bool, as_number, as_u64, as_str, as_array}
use Rattle.serde_json.specs.Read.{read as tree_of_text}

-- the tree of a text, if it is JSON in UTF-8
unfoldable pub tree_of : List ℕ → Option Data
tree_of bytes = if is_utf8 bytes then tree_of_text bytes else None

-- anything but null, as itself
abbrev pub value : Data → Option Data
value json.null = None
value (json.boolean b) = Some (json.boolean b)
value (json.number n) = Some (json.number n)
value (json.string s) = Some (json.string s)
value (json.array ds) = Some (json.array ds)
value (json.object ms) = Some (json.object ms)

abbrev pub flag : Data → Option Bool
flag tree = as_bool tree

abbrev pub text : Data → Option (List ℕ)
text tree = as_str tree

-- a whole number below 2^64: neither `-1` nor `1.0` nor `1e3` is one
unfoldable pub whole : Data → Option ℕ
whole tree = option_and_then as_u64 (as_number tree)

-- a whole number below 2^32
unfoldable pub word : Data → Option ℕ
word tree = option_and_then (λ n. if nat_lt n (2 ^ 32) then Some n else None) (whole tree)

-- an object, as itself
abbrev pub object : Data → Option Data
object json.null = None
object (json.boolean b) = None
object (json.number n) = None
object (json.string s) = None
object (json.array ds) = None
object (json.object ms) = Some (json.object ms)

abbrev pub items_list : Items → List Data
items_list json.no_items = []
items_list (json.item d ds) = d ∷ items_list ds

unfoldable pub list : Data → Option (List Data)
list tree = option_map items_list (as_array tree)

-- the value of each tree, if each is of this kind
abbrev pub each : {A : Type 0} → (Data → Option A) → List Data → Option (List A)
each kind [] = Some []
each kind (d ∷ ds) = option_and_then (λ x. option_map (λ xs. x ∷ xs) (each kind ds)) (kind d)

-- a list of whole numbers
unfoldable pub wholes : Data → Option (List ℕ)
wholes tree = option_and_then (each whole) (list tree)

-- a list of texts, as its items
unfoldable pub text_list : Data → Option (List Data)
text_list tree = option_and_then (λ items. if is_some (each text items) then Some items else None) (list tree)

-- the member with this key; one that is null counts as absent
unfoldable pub member : List ℕ → Data → Option Data
member key tree = option_and_then value (get key tree)

unfoldable pub has : List ℕ → Data → Bool
has key tree = is_some (member key tree)
