-- What a unit's filter of calls says of a call: systemd.exec(5), SystemCallFilter= and SystemCallErrorNumber=.
-- A list of allowed calls kills by any other call, or returns an errno. A list of denied calls does so by its own.
use Rattle.std.specs.Prelude.{◌≡◌, ℕ, ◌<◌, ◌==◌, Bool, true, false, if◌then◌else◌, nat_lt, not, List, [], ◌∷◌, All}
use Rattle.std.specs.Prelude.{find, length, option_map, Option, Some, None}
use Rattle.std.specs.List.{list_all}
use Rattle.sys_table.specs.declared.table.TheConstants.{TABLE_LIMIT}
use Rattle.oci_profile.specs.declared.conditions.Cond.{Cond}
use Rattle.oci_profile.specs.declared.decision.Decision.{Decision}
use Rattle.oci_profile.specs.declared.decision.Decision.TheVariants.{KillProcess, Errno, Allow}
use Rattle.oci_profile.specs.declared.profile.Entry.{Entry}
use Rattle.oci_profile.specs.Decision.{value_of}
use Rattle.oci_profile.specs.Meaning.{names}
use Rattle.profile_unit.specs.declared.unit.NamedCall.{NamedCall}

-- the decision of a list, and of all other calls
abbrev pub decision_in : List NamedCall → Decision → ℕ → Decision
decision_in [] rest nr = rest
decision_in (call ∷ calls) rest nr = if call.nr == nr then call.decision else decision_in calls rest nr

-- an action with which a unit's filter denies a call
abbrev pub denies : Decision → Bool
denies KillProcess = true
denies (Errno errno) = nat_lt 0 errno
denies other = false

abbrev pub is_default : Decision → Bool
is_default Allow = true
is_default other = denies other

-- the calls of a list are allowed, or those of a list whose other calls are allowed are denied
abbrev pub is_allowed : Decision → Bool
is_allowed Allow = true
is_allowed other = false

abbrev pub is_listed : Decision → Decision → Bool
is_listed Allow decision = denies decision
is_listed rest decision = is_allowed decision

-- a list that a unit can have: one without a call would be no filter
pub record Fits (rest : Decision) (calls : List NamedCall) : Type 0 where
  pub default : is_default rest ≡ true
  pub listed : list_all (λ call. is_listed rest call.decision) calls ≡ true
  pub some : 0 < length calls
  pub of_table : All (λ call. call.nr < TABLE_LIMIT) calls

abbrev pub is_some : List Cond → Bool
is_some [] = false
is_some (cond ∷ conds) = true

abbrev pub has_conditions : Entry → Bool
has_conditions entry = is_some entry.conds

abbrev pub decision_or : Decision → Option Entry → Decision
decision_or default None = default
decision_or default (Some entry) = entry.decision

-- the decision of the first entry that names the call
abbrev pub first_named : List Entry → Decision → ℕ → Decision
first_named entries default nr = decision_or default (find (λ entry. names entry nr) entries)

-- the number of the first call that the list can't have
abbrev pub unlisted : Decision → List NamedCall → Option ℕ
unlisted rest calls = option_map (λ call. call.nr) (find (λ call. not (is_listed rest call.decision)) calls)

-- the calls below the limit are listed unless the default decides them
pub record IsUpTo (entries : List Entry) (default : Decision) (limit : ℕ) (calls : List NamedCall) : Type 0 where
  pub decided : (nr : ℕ) → nr < limit
      → value_of (decision_in calls default nr) ≡ value_of (first_named entries default nr)
  pub within : All (λ call. call.nr < limit) calls
  pub each : All (λ call. call.decision ≡ first_named entries default call.nr) calls
