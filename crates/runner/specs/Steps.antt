-- The result of a step of serving a connection, which private functions cite.
use Rattle.std.specs.Prelude.{◌≡◌, ℕ, List, [], ◌++◌, Option}
use Rattle.std.specs.Io.KnownBytes.{Appends, Consumes, IsAtEnd}
use Rattle.runner.specs.Connection.{Exchange, Talk}

-- this many bytes were read, and added to those that had come; none only at the end
pub record ReadsPiece (input input' : Option (List ℕ)) (old new : List ℕ) (count : ℕ) : Type 0 where
  pub more : List ℕ
  pub taken : Consumes input input' more
  pub added : new ≡ old ++ more
  pub none : count ≡ 0 → more ≡ []
  pub end : count ≡ 0 → IsAtEnd input'

-- a prefix of these bytes was written
pub record SendsPart (bytes : List ℕ) (output output' : Option (List ℕ)) : Type 0 where
  pub written : List ℕ
  pub unwritten : List ℕ
  pub whole : bytes ≡ written ++ unwritten
  pub sent : Appends output output' written

-- some of the bytes that came were answered, and a prefix of the replies was written
pub record CutsTalk {X : Type 0} (One : X → Exchange → X → Type 0) (old new : X) (came : List ℕ)
    (output output' : Option (List ℕ)) : Type 0 where
  pub left : List ℕ
  pub unwritten : List ℕ
  pub talk : Talk One old new came left unwritten output output'
