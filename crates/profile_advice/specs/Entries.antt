-- The entry that advice is about.
use Rattle.std.specs.Prelude.{ℕ, Option, Some, None}
use Rattle.profile_advice.specs.declared.kind.Advice.{Advice}
use Rattle.profile_advice.specs.declared.kind.Advice.TheVariants as about

-- its place, if there is one
abbrev pub entry_of : Advice → Option ℕ
entry_of (about.AlwaysHolds place at) = Some place
entry_of (about.UnusedValue place at) = Some place
entry_of (about.NoArgument place at number) = Some place
entry_of (about.WideArgument place at call here cut) = Some place
entry_of (about.UnknownErrno place code) = Some place
entry_of (about.UnknownDefaultErrno code) = None
entry_of (about.ShadowedName place number earlier) = Some place
entry_of (about.RepeatedName place number earlier) = Some place
entry_of (about.Bypass number call) = None
entry_of (about.Powerful number) = None
