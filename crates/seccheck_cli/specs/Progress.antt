-- When a long comparison prints how far it has come, this project's own: docs/SEMANTICS.md, "Programs".
use Rattle.std.specs.Prelude.{ℕ, ◌+◌, nat_le, Bool}

-- a second has passed between these moments, in milliseconds
abbrev pub is_due : ℕ → ℕ → Bool
is_due last now = nat_le (last + 1000) now
