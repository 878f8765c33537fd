-- The steps of a place in a JSON text (RFC 8259), as contracts see them.
use Rattle.std.specs.Prelude.{ℕ, List}

-- to a member of an object, by its key, or to an item of a list, by its index from 0
pub data Part : Type 0 where
  Member : List ℕ → Part
  Item : ℕ → Part
