-- The plain profile of a template: the entries whose conditions are met, in their order.
use Rattle.std.specs.Prelude.{ℕ, List, [], filter_map, flat_map, if◌then◌else◌, Bool, Option, Some, None}
use Rattle.std.specs.List.{enumerate_from}
use Rattle.sys_table.specs.declared.calls.CallTable.{CallTable}
use Rattle.oci_profile.specs.declared.decision.Decision.{Decision}
use Rattle.oci_profile.specs.declared.profile.Profile.{Profile}
use Rattle.profile_text.specs.declared.named.NamedEntry.{NamedEntry}
use Rattle.profile_text.specs.Named.{is_stricter, is_taken, named_profile}
use Rattle.profile_template.specs.declared.left_out.LeftOut.{LeftOut}
use Rattle.profile_template.specs.declared.template.Template.{Template}

abbrev pub met_entries : List (Option NamedEntry) → List NamedEntry
met_entries entries = filter_map (λ entry. entry) entries

abbrev pub profile_of : CallTable → Template → Profile
profile_of calls template = named_profile calls template.default (met_entries template.entries)

-- the result for an entry's name that has this index
abbrev pub name_out : CallTable → Bool → ℕ → (ℕ × List ℕ) → Option LeftOut
name_out calls is_stricter entry (index, name) = if is_taken calls is_stricter name then None
    else Some (record { entry = entry; name = index })

-- the names of an entry that are left out
abbrev pub names_out : CallTable → Bool → ℕ → List (List ℕ) → List LeftOut
names_out calls is_stricter entry names = filter_map (name_out calls is_stricter entry) (enumerate_from 0 names)

-- those of an entry of the template, if its conditions are met
abbrev pub out_if : CallTable → Decision → ℕ → Option NamedEntry → List LeftOut
out_if calls default index None = []
out_if calls default index (Some entry) = names_out calls (is_stricter default entry.decision) index entry.names

abbrev pub out_of_entry : CallTable → Decision → (ℕ × Option NamedEntry) → List LeftOut
out_of_entry calls default (index, entry) = out_if calls default index entry

-- all names that are left out
abbrev pub left_out : CallTable → Template → List LeftOut
left_out calls template = flat_map (out_of_entry calls template.default) (enumerate_from 0 template.entries)
