-- Which names a template's profile is written without, this project's own: docs/SEMANTICS.md, "Templates".
use Rattle.std.specs.Prelude.{ℕ, Bool, true, false}
use Rattle.absent_names.specs.declared.kind.AbsentName.{AbsentName}
use Rattle.absent_names.specs.declared.kind.AbsentName.TheVariants as name

-- an entry that denies a call must not lose it: only a call that no program can make on x86-64 is left out, or one
-- newer than the table if that is asked for
abbrev pub may_be_left_out : Bool → AbsentName → Bool
may_be_left_out drops_newer (name.Newer number) = drops_newer
may_be_left_out drops_newer name.NotImplemented = true
may_be_left_out drops_newer name.OtherArchitecture = true
may_be_left_out drops_newer name.Unknown = false
