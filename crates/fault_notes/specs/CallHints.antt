-- The hint on a name that no known call has: this project's own, docs/SEMANTICS.md, "Notes on refused files".
use Rattle.std.specs.Prelude.{◌++◌, List, ℕ, [], codes, Bool, true, false, if◌then◌else◌, is_some}
use Rattle.std.specs.Prelude.{Option, Some, None}
use Rattle.std.specs.Fmt.{decimal}
use Rattle.absent_names.specs.Kinds.{kind_of}
use Rattle.absent_names.specs.Near.{suggestion}
use Rattle.absent_names.specs.declared.kind.AbsentName.{AbsentName}
use Rattle.absent_names.specs.declared.kind.AbsentName.TheVariants as is
use Rattle.json_place.specs.declared.shown.Shown as standing
use Rattle.json_place.specs.declared.shown.Shown.TheVariants.{Text}
use Rattle.oci_profile.specs.declared.faults.ProfileFault.TheVariants as profile
use Rattle.profile_template.specs.declared.faults.TemplateFault.TheVariants as template
use Rattle.script.specs.declared.faults.ScriptFault.TheVariants as script
use Rattle.sys_table.specs.SysTable.{number_in}
use Rattle.sys_table.specs.declared.calls.CallTable.TheVariants.{Linux6_12}
use Rattle.fault_notes.specs.declared.named.Named.{Named}
use Rattle.fault_notes.specs.declared.named.Named.TheVariants.{Profile, Template, Script}

-- whether the fault is a name that no known call has
abbrev pub is_unknown_call : Named → Bool
is_unknown_call (Profile profile.UnknownCall) = true
is_unknown_call (Template (template.Profile profile.UnknownCall)) = true
is_unknown_call (Script script.UnknownCall) = true
is_unknown_call _ = false

-- a call's number, and whether the newest table has it
abbrev pub newer_text : ℕ → Bool → List ℕ
newer_text number true = codes " (newer than Linux 5.8: give --calls 6.12)"
newer_text number false = codes " (call " ++ (decimal number ++ codes ", newer than the table)")

abbrev pub near_text : Option (List ℕ) → List ℕ
near_text None = []
near_text (Some call) = codes " (did you mean " ++ (call ++ codes "?)")

-- what the name is, with its number by the newest table and the call that is like it
abbrev pub hint_by : AbsentName → Option ℕ → Option (List ℕ) → List ℕ
hint_by (is.Newer number) known near = newer_text number (is_some known)
hint_by is.NotImplemented known near = codes " (not implemented on x86-64)"
hint_by is.OtherArchitecture known near = codes " (a call of other architectures)"
hint_by is.Unknown known near = near_text near

-- the hint on a name
unfoldable pub name_hint : List ℕ → List ℕ
name_hint name = hint_by (kind_of name) (number_in Linux6_12 name) (suggestion Linux6_12 name)

abbrev pub hint_after : Option (List ℕ) → List ℕ
hint_after None = []
hint_after (Some name) = name_hint name

-- the name at the place of a fault, if the fault is that no known call has it
abbrev pub unknown_name : Named → standing.Shown → Option (List ℕ)
unknown_name fault (Text name) = if is_unknown_call fault then Some name.now else None
unknown_name fault _ = None
