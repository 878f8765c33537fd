-- How long the text of a tree may be.
use Rattle.std.proofs.Common.{ℕ, ◌+◌, ◌*◌, ◌≤◌, List, [], ◌∷◌, ◌++◌, length, length-append, Bool, true, false}
use Rattle.std.proofs.Common.{cond, arith}
use Rattle.std.specs.List.{flat_map}
use Rattle.serde_json.specs.Data.{Data, null, boolean, number, string, array, object, Items, no_items, item}
use Rattle.serde_json.specs.Data.{Members, no_members, member}
use Rattle.serde_json.specs.Written.{compact_text, comma_if, items_text, members_text, number_text}
use Rattle.serde_json.proofs.OnLiterals.{serde_json_on_literals}

-- an upper bound of the bytes, if each byte of a text takes six
abbrev mutual
  pub size : Data → ℕ
  size null = 4
  size (boolean b) = 5
  size (number n) = length (number_text n)
  size (string s) = 6 * length s + 2
  size (array ds) = items_size ds + 2
  size (object ms) = members_size ms + 2

  pub items_size : Items → ℕ
  items_size no_items = 0
  items_size (item d ds) = size d + items_size ds + 1

  pub members_size : Members → ℕ
  members_size no_members = 0
  members_size (member k d ms) = 6 * length k + size d + members_size ms + 4

-- a byte is written as itself, as an escape of two, or by its number
at_most : (short low : Bool) (letter high digit x : ℕ)
    → length (34 ∷ ((cond short (92 ∷ letter ∷ [])
    (cond low (92 ∷ 117 ∷ 48 ∷ 48 ∷ high ∷ digit ∷ []) (x ∷ [])) ++ []) ++ 34 ∷ [])) ≤ 8
at_most true low letter high digit x = omega arith
at_most false true letter high digit x = omega arith
at_most false false letter high digit x = omega arith

byte_size : (x : ℕ) → length (compact_text (string (x ∷ []))) ≤ 8
unfolding serde_json_on_literals
byte_size x = at_most _ _ _ _ _ x

-- a text in quotes, each byte of which takes at most six
in_quotes : (written : ℕ → List ℕ) → ((x : ℕ) → length (34 ∷ ((written x ++ []) ++ 34 ∷ [])) ≤ 8)
    → (s : List ℕ) → length (34 ∷ (flat_map written s ++ 34 ∷ [])) ≤ 6 * length s + 2
in_quotes written short [] = omega arith
in_quotes written short (x ∷ s) =
    omega (
      arith,
      length-append (written x) (flat_map written s),
      length-append (written x ++ flat_map written s) (34 ∷ []),
      length-append (flat_map written s) (34 ∷ []),
      length-append (written x ++ []) (34 ∷ []),
      length-append (written x) [],
      short x,
      in_quotes written short s,
    )

quoted_size : (s : List ℕ) → length (compact_text (string s)) ≤ 6 * length s + 2
unfolding serde_json_on_literals
quoted_size s = in_quotes _ byte_size s

comma_size : (later : Bool) (text : List ℕ) → length (comma_if later ++ text) ≤ length text + 1
comma_size true text = omega arith
comma_size false text = omega arith

mutual
  pub text_size : (d : Data) → length (compact_text d) ≤ size d
  text_size null = omega arith
  text_size (boolean true) = omega arith
  text_size (boolean false) = omega arith
  text_size (number n) = omega arith
  text_size (string s) = quoted_size s
  text_size (array ds) = omega (arith, items_text_size false ds)
  text_size (object ms) = omega (arith, members_text_size false ms)

  items_text_size : (later : Bool) (ds : Items) → length (items_text later ds) ≤ items_size ds + 1
  items_text_size later no_items = omega arith
  items_text_size later (item d ds) =
      omega (
        arith,
        comma_size later (compact_text d ++ items_text true ds),
        length-append (compact_text d) (items_text true ds),
        text_size d,
        items_text_size true ds,
      )

  members_text_size : (later : Bool) (ms : Members) → length (members_text later ms) ≤ members_size ms + 1
  members_text_size later no_members = omega arith
  members_text_size later (member k d ms) =
      omega (
        arith,
        comma_size later (compact_text (string k) ++ 58 ∷ (compact_text d ++ members_text true ms)),
        length-append (compact_text (string k)) (58 ∷ (compact_text d ++ members_text true ms)),
        length-append (compact_text d) (members_text true ms),
        quoted_size k,
        text_size d,
        members_text_size true ms,
      )
