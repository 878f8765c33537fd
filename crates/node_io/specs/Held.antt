-- The contents of files, this project's own: docs/SEMANTICS.md, "Devices". A path is its bytes.
use Rattle.std.specs.Prelude.{◌≡◌, ℕ, List, Option, None, Some, ⊤}

-- the bytes at each path that exists
abbrev pub Held : Type 0
Held = List ℕ → Option (List ℕ)

-- this is true of the contents at this path, if the contents are known
abbrev pub Tells : Option Held → List ℕ → (Option (List ℕ) → Type 0) → Type 0
Tells None path P = ⊤
Tells (Some held) path P = P (held path)

-- these are all the bytes that are left, if those are known
abbrev pub AreAll : Option (List ℕ) → List ℕ → Type 0
AreAll None bytes = ⊤
AreAll (Some left) bytes = left ≡ bytes
