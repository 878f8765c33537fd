-- Calls that undo what a profile is for, this project's own choice: docs/SEMANTICS.md, "What lint reports".
use Rattle.std.specs.Prelude.{ℕ, ◌&&◌, Bool, if◌then◌else◌, List, [], ◌++◌, filter_map}
use Rattle.std.specs.Prelude.{Option, Some, None}
use Rattle.oci_profile.specs.declared.profile.Profile.{Profile}
use Rattle.profile_advice.specs.Judged.{allows_by_default, denies_by_default, is_allowed, is_denied, plain_call}
use Rattle.profile_advice.specs.declared.kind.Advice.{Advice}
use Rattle.profile_advice.specs.declared.kind.Advice.TheVariants.{Bypass, Powerful}
use Rattle.profile_advice.specs.declared.table.OtherWay.{OtherWay}
use Rattle.profile_advice.specs.declared.table.TheConstants.{NAMESPACE_WAYS, POWERFUL, WAYS}

-- a call is denied, and another one that can do the same is allowed
abbrev pub is_bypassed : Profile → OtherWay → Bool
is_bypassed profile way = is_denied profile (plain_call way.call 0)
    && is_allowed profile (plain_call way.other way.first)

abbrev pub bypass_at : Profile → OtherWay → Option Advice
bypass_at profile way = if is_bypassed profile way
    then Some (Bypass way.call (plain_call way.other way.first)) else None

abbrev pub power_at : Profile → ℕ → Option Advice
power_at profile number =
    if is_allowed profile (plain_call number 0) then Some (Powerful number) else None

-- other ways matter where all calls but some are allowed, and powerful calls where all but some are denied
abbrev pub about_calls : Profile → List Advice
about_calls profile = (if allows_by_default profile then filter_map (bypass_at profile) WAYS else [])
    ++ (filter_map (bypass_at profile) NAMESPACE_WAYS
    ++ (if denies_by_default profile then filter_map (power_at profile) POWERFUL else []))
