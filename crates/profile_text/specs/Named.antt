-- Profiles whose entries keep their names, including those of no known call, and how they are
-- written: OCI runtime-spec 1.1, config-linux, seccomp, as compact JSON. This project's own is that an entry
-- stricter than the default loses the names of no known call, as the reader refuses them.
use Rattle.std.specs.Prelude.{ℕ, ◌||◌, List, [], ◌∷◌, codes, map, filter, filter_map, nat_lt, not, Bool}
use Rattle.std.specs.Prelude.{is_some, Option, Some, None}
use Rattle.serde_json.specs.Data.{Data, string, array, object, no_members, put}
use Rattle.serde_json.specs.View.{items_of}
use Rattle.serde_json.specs.Written.{compact_text}
use Rattle.sys_table.specs.SysTable.{number_in}
use Rattle.sys_table.specs.declared.calls.CallTable.{CallTable}
use Rattle.oci_profile.specs.declared.conditions.Cond.{Cond}
use Rattle.oci_profile.specs.declared.decision.Decision.{Decision}
use Rattle.oci_profile.specs.declared.profile.Entry.{Entry}
use Rattle.oci_profile.specs.declared.profile.Profile.{Profile}
use Rattle.oci_profile.specs.Profile.{rank}
use Rattle.profile_text.specs.declared.named.NamedEntry.{NamedEntry}
use Rattle.profile_text.specs.Written.{action_name, entry_with, errno_of, with_list, with_whole}

abbrev pub is_stricter : Decision → Decision → Bool
is_stricter default decision = nat_lt (rank decision) (rank default)

-- whether an entry is written with this name
abbrev pub is_taken : CallTable → Bool → List ℕ → Bool
is_taken calls is_stricter name = not is_stricter || is_some (number_in calls name)

abbrev pub taken_names : CallTable → Decision → NamedEntry → List (List ℕ)
taken_names calls default entry = filter (is_taken calls (is_stricter default entry.decision)) entry.names

-- an entry that is left with no name is left out
abbrev pub entry_if : CallTable → Decision → List Cond → List (List ℕ) → Option Entry
entry_if calls decision conds [] = None
entry_if calls decision conds (name ∷ names) =
    Some (record { numbers = filter_map (number_in calls) (name ∷ names); decision = decision; conds = conds })

abbrev pub named_entry : CallTable → Decision → NamedEntry → Option Entry
named_entry calls default entry = entry_if calls entry.decision entry.conds (taken_names calls default entry)

-- the profile with this default and these entries
unfoldable pub named_profile : CallTable → Decision → List NamedEntry → Profile
named_profile calls default entries = record {
  default = default;
  entries =
      filter_map (named_entry calls default) entries;
}

abbrev pub tree_if : Decision → List Cond → List (List ℕ) → Option Data
tree_if decision conds [] = None
tree_if decision conds (name ∷ names) =
    Some (entry_with (map string (name ∷ names)) (action_name decision) (errno_of decision) conds)

abbrev pub named_tree : CallTable → Decision → NamedEntry → Option Data
named_tree calls default entry = tree_if entry.decision entry.conds (taken_names calls default entry)

unfoldable pub named_profile_tree : CallTable → Decision → List (List ℕ) → List NamedEntry → Data
named_profile_tree calls default architectures entries = object (
    with_list (codes "architectures") (map string architectures) (
    with_whole (codes "defaultErrnoRet") (errno_of default) (
    put (codes "defaultAction") (string (action_name default)) (
    put (codes "syscalls") (array (items_of (filter_map (named_tree calls default) entries))) no_members))))

abbrev pub named_profile_text : CallTable → Decision → List (List ℕ) → List NamedEntry → List ℕ
named_profile_text calls default architectures entries =
    compact_text (named_profile_tree calls default architectures entries)
