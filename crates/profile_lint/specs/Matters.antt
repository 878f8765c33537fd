-- Which findings about a profile's text matter for what it returns: this project's own, docs/SEMANTICS.md,
-- "What lint reports".
use Rattle.std.specs.Prelude.{ℕ, ◌==◌, Bool, true, false, not, ◌&&◌, List, filter, Option, Some, None}
use Rattle.std.specs.Prelude.{slice_get}
use Rattle.absent_names.specs.Kinds.{kind_of}
use Rattle.absent_names.specs.declared.kind.AbsentName.{AbsentName}
use Rattle.absent_names.specs.declared.kind.AbsentName.TheVariants.{Newer}
use Rattle.oci_profile.specs.Decision.{value_of}
use Rattle.oci_profile.specs.declared.decision.Decision.{Decision}
use Rattle.oci_profile.specs.declared.profile.Entry.{Entry}
use Rattle.oci_profile.specs.declared.profile.Profile.{Profile}
use Rattle.serde_json.specs.Data.{Data}
use Rattle.sys_table.specs.declared.calls.CallTable.{CallTable}
use Rattle.profile_lint.specs.Passed.{PassedData, UnknownName, all_passed_in}

abbrev pub is_newer : AbsentName → Bool
is_newer (Newer number) = true
is_newer name = false

abbrev pub returns : Decision → Option Entry → Bool
returns default None = false
returns default (Some entry) = value_of entry.decision == value_of default

-- whether the entry at this place returns what the default returns
abbrev pub returns_default : Profile → ℕ → Bool
returns_default profile place = returns profile.default (slice_get profile.entries place)

-- a call that is newer than the table gets the default's value: that of its entry, or another one
abbrev pub matters : Profile → PassedData → Bool
matters profile (UnknownName entry index name) =
    not (is_newer (kind_of name) && returns_default profile entry)
matters profile told = true

-- the findings about the tree of this profile that matter
abbrev pub passed_in : CallTable → Profile → Data → List PassedData
passed_in calls profile tree = filter (matters profile) (all_passed_in calls tree)
