-- Names that an earlier entry decides: the first entry that applies to a call decides it.
use Rattle.std.specs.Prelude.{ℕ, ◌==◌, ◌&&◌, Bool, if◌then◌else◌, List, [], length, take, slice_get, position}
use Rattle.std.specs.Prelude.{filter_map, Option, option_map, option_and_then, is_some}
use Rattle.std.specs.List.{list_all}
use Rattle.oci_profile.specs.Decision.{value_of}
use Rattle.oci_profile.specs.Meaning.{names}
use Rattle.oci_profile.specs.declared.profile.Entry.{Entry}
use Rattle.profile_advice.specs.declared.kind.Advice.{Advice}
use Rattle.profile_advice.specs.declared.kind.Advice.TheVariants.{ShadowedName, RepeatedName}

-- whether the entry decides each call with the number that no earlier entry decides
abbrev pub is_bare : ℕ → Entry → Bool
is_bare number entry = names entry number && (length entry.conds == 0)

-- the place of the first such entry
abbrev pub bare_place : List Entry → ℕ → Option ℕ
bare_place entries number = position (is_bare number) entries

abbrev pub shadow_of : ℕ → Entry → ℕ → ℕ → Entry → Advice
shadow_of place entry number at earlier = if value_of earlier.decision == value_of entry.decision
    then RepeatedName place number at else ShadowedName place number at

-- the advice about a name of the entry at this place
unfoldable pub shadow_at : List Entry → ℕ → Entry → ℕ → Option Advice
shadow_at entries place entry number = option_and_then
    (λ at. option_map (λ earlier. shadow_of place entry number at earlier) (slice_get entries at))
    (bare_place (take place entries) number)

abbrev pub is_shadowed : List Entry → ℕ → ℕ → Bool
is_shadowed entries place number = is_some (bare_place (take place entries) number)

-- an entry of which all names are shadowed decides no call, as is reported of it
abbrev pub about_names : List Entry → ℕ → Entry → List Advice
about_names entries place entry = if list_all (is_shadowed entries place) entry.numbers then []
    else filter_map (shadow_at entries place entry) entry.numbers
