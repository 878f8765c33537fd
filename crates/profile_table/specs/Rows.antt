-- How a profile treats the calls with a number: OCI runtime-spec 1.1, config-linux, seccomp, where the first
-- entry that names the number and whose conditions all hold decides.
use Rattle.std.specs.Prelude.{◌≡◌, ◌<◌, ℕ, zero, suc, true, false, if◌then◌else◌, List, [], ◌∷◌, ◌++◌, Some}
use Rattle.std.specs.Prelude.{length, slice_get}
use Rattle.std.specs.Option.{is_some}
use Rattle.call_data.specs.declared.sys_call.SysCall.{SysCall}
use Rattle.oci_profile.specs.declared.decision.Decision.{Decision}
use Rattle.oci_profile.specs.declared.profile.Entry.{Entry}
use Rattle.oci_profile.specs.declared.profile.Profile.{Profile}
use Rattle.oci_profile.specs.Decision.{value_of}
use Rattle.oci_profile.specs.Meaning.{names}
use Rattle.explain.specs.declared.explanation.Decider.{Decider}
use Rattle.explain.specs.declared.explanation.Decider.TheVariants as by
use Rattle.explain.specs.Explained.{Decides, applies}
use Rattle.sys_table.specs.SysTable.{limit_of, name_in}
use Rattle.sys_table.specs.declared.calls.CallTable.{CallTable}
use Rattle.profile_table.specs.declared.row.Row.{Row}

-- a native call with this number: 0xc000003e is AUDIT_ARCH_X86_64 of linux/audit.h
abbrev pub IsOn : ℕ → SysCall → Type 0
IsOn nr call = (call.arch ≡ 0xc000003e) × (call.nr ≡ nr)

-- the entry at this place comes before the one that decides
abbrev pub IsBefore : ℕ → Decider → Type 0
IsBefore place by.Architecture = ⊥
IsBefore place by.X32Bit = ⊥
IsBefore place (by.Entry end) = place < end
IsBefore place by.Default = Unit {0}

-- an entry that decides is one of the list
abbrev pub IsPlaced : List Entry → Decider → Type 0
IsPlaced entries by.Architecture = ⊥
IsPlaced entries by.X32Bit = ⊥
IsPlaced entries (by.Entry place) = place < length entries
IsPlaced entries by.Default = Unit {0}

-- this decides the call, and with this value
pub record IsDecidedBy (profile : Profile) (call : SysCall) (decider : Decider) (value : ℕ) : Type 0 where
  pub decision : Decision
  pub decides : Decides profile call decider decision
  pub value_is : value_of decision ≡ value

-- an entry before the one that decides names the number
pub record IsAsked (profile : Profile) (row : Row) : Type 0 where
  pub place : ℕ
  pub entry : Entry
  pub there : slice_get profile.entries place ≡ Some entry
  pub before : IsBefore place row.decider
  pub named : names entry row.nr ≡ true

-- the row's decision is made if no entry before applies, and so on all calls with the number if none names it
pub record IsRowOf (calls : CallTable) (profile : Profile) (row : Row) : Type 0 where
  pub inside : row.nr < limit_of calls
  pub placed : IsPlaced profile.entries row.decider
  pub decides : (call : SysCall) → IsOn row.nr call
      → ((place : ℕ) (entry : Entry) → IsBefore place row.decider
      → slice_get profile.entries place ≡ Some entry → applies call entry ≡ false)
      → IsDecidedBy profile call row.decider row.value
  pub alike : row.is_asked ≡ false → (call : SysCall) → IsOn row.nr call
      → IsDecidedBy profile call row.decider row.value
  pub asked : row.is_asked ≡ true → IsAsked profile row

-- the number, if one of these calls has it
unfoldable pub named_at : CallTable → ℕ → List ℕ
named_at calls nr = if is_some (name_in calls nr) then nr ∷ [] else []

-- the numbers of these calls below this one, in order
unfoldable pub named_below : CallTable → ℕ → List ℕ
named_below calls zero = []
named_below calls (suc nr) = named_below calls nr ++ named_at calls nr
