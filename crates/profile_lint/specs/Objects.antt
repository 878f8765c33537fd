-- Findings about a profile as JSON objects (RFC 8259), one per line, this project's own: docs/SEMANTICS.md,
-- "Programs". Places, keys, names and words may have any character; no other text has one that JSON would
-- escape.
use Rattle.std.specs.Prelude.{ℕ, nat_lt, ◌-◌, Bool, if◌then◌else◌, List, [], ◌++◌, codes, flat_map, Option}
use Rattle.std.specs.Prelude.{Some, None}
use Rattle.std.specs.Fmt.{decimal}
use Rattle.serde_json.specs.Data.{string}
use Rattle.serde_json.specs.Written.{compact_text}
use Rattle.action.specs.Shown.{value_object}
use Rattle.call_names.specs.Words.{call_members}
use Rattle.absent_names.specs.Kinds.{kind_of}
use Rattle.absent_names.specs.Near.{suggestion}
use Rattle.absent_names.specs.declared.kind.AbsentName.{AbsentName}
use Rattle.absent_names.specs.declared.kind.AbsentName.TheVariants as absent
use Rattle.sys_table.specs.SysTable.{limit_of}
use Rattle.sys_table.specs.declared.calls.CallTable.{CallTable}
use Rattle.profile_lint.specs.declared.choice.Tally.TheVariants as which
use Rattle.call_data.specs.declared.sys_call.SysCall.{SysCall}
use Rattle.profile_lint.specs.declared.finding.EngineValues.{EngineValues}
use Rattle.profile_lint.specs.declared.finding.Finding.{Finding}
use Rattle.profile_lint.specs.declared.finding.Finding.TheVariants as found
use Rattle.profile_lint.specs.declared.kinds.FindingKind.{FindingKind}
use Rattle.profile_lint.specs.Choice.{counted, is_shown}
use Rattle.profile_lint.specs.Kinds.{kind_of_found, kind_of_told, kind_text, severity_of, severity_text}
use Rattle.profile_lint.specs.Advised.{advice_members}
use Rattle.profile_lint.specs.Passed.{PassedData}
use Rattle.profile_lint.specs.Passed.PassedData.{Ignored, OtherArchitectures, RepeatedName, UnknownArchitecture}
use Rattle.profile_lint.specs.Passed.PassedData.{UnknownName}
use Rattle.profile_lint.specs.Text.{found_place, found_words, line_of, newer_words, others_words}
use Rattle.profile_lint.specs.Text.{told_place, told_words}

-- a finding of a kind, with members of its own
abbrev pub object_text : List ℕ → FindingKind → List ℕ → List ℕ → List ℕ
object_text place kind members words = codes "{\"place\":" ++ (compact_text (string place)
    ++ (codes ",\"kind\":\"" ++ (kind_text kind ++ (codes "\",\"severity\":\""
    ++ (severity_text (severity_of kind) ++ (codes "\"" ++ (members ++ (codes ",\"text\":"
    ++ (compact_text (string words) ++ codes "}")))))))))

abbrev pub near_members : Option (List ℕ) → List ℕ
near_members None = []
near_members (Some call) = codes ",\"near\":\"" ++ (call ++ codes "\"")

abbrev pub kind_members : CallTable → List ℕ → AbsentName → List ℕ
kind_members calls name (absent.Newer number) = codes ",\"call\":" ++ decimal number
kind_members calls name absent.NotImplemented = []
kind_members calls name absent.OtherArchitecture = []
kind_members calls name absent.Unknown = near_members (suggestion calls name)

-- the number of a newer call, or the call that a name was probably meant to be
abbrev pub absent_members : CallTable → List ℕ → List ℕ
absent_members calls name = kind_members calls name (kind_of name)

abbrev pub name_members : List ℕ → List ℕ
name_members name = codes ",\"value\":" ++ compact_text (string name)

abbrev pub told_members : CallTable → PassedData → List ℕ
told_members calls (Ignored holder key) = codes ",\"field\":" ++ compact_text (string key)
told_members calls OtherArchitectures = codes ",\"field\":\"architectures\""
told_members calls (UnknownArchitecture index name) = name_members name
told_members calls (UnknownName entry index name) = name_members name ++ absent_members calls name
told_members calls (RepeatedName entry index name) = name_members name

abbrev pub told_object : CallTable → PassedData → List ℕ
told_object calls told =
    object_text (told_place told) (kind_of_told told) (told_members calls told) (told_words calls told)

abbrev pub instead_members : Option ℕ → List ℕ
instead_members None = []
instead_members (Some value) = codes ",\"or\":" ++ value_object value

-- a call that engines treat differently, and its values
abbrev pub otherwise_members : SysCall → EngineValues → List ℕ
otherwise_members call values = codes "," ++ (call_members call
    ++ (codes ",\"here\":" ++ (value_object values.here ++ (codes ",\"runc\":" ++ (value_object values.there
    ++ instead_members values.instead)))))

abbrev pub found_members : CallTable → Finding → List ℕ
found_members calls (found.NeverDecides place) = []
found_members calls (found.Redundant place) = []
found_members calls (found.NotFoundOut place) = []
found_members calls (found.NotLookedAt place) = []
found_members calls (found.NotCompared place) = []
found_members calls (found.EnginesDiffer place call values) = otherwise_members call values
found_members calls (found.Overlap place other call) = codes "," ++ (call_members call
    ++ (codes ",\"other\":\"syscalls[" ++ (decimal other ++ codes "]\"")))
found_members calls (found.NewerCalls errno) = codes ",\"above\":" ++ (decimal (limit_of calls - 1)
    ++ (codes ",\"errno\":" ++ (decimal errno ++ codes ",\"wanted\":38")))
found_members calls (found.Advised advice) = advice_members advice

abbrev pub found_object : CallTable → Finding → List ℕ
found_object calls found =
    object_text (found_place found) (kind_of_found found) (found_members calls found) (found_words calls found)

abbrev pub told_line : CallTable → Bool → List FindingKind → PassedData → List ℕ
told_line calls all allowed told =
    if is_shown all allowed (kind_of_told told) then line_of (told_object calls told) else []

abbrev pub found_line : CallTable → Bool → List FindingKind → Finding → List ℕ
found_line calls all allowed found =
    if is_shown all allowed (kind_of_found found) then line_of (found_object calls found) else []

abbrev pub others_object : ℕ → List ℕ
others_object count = if nat_lt 0 count
    then codes "{\"place\":\"syscalls\",\"kind\":\"OtherNames\",\"severity\":\"note\",\"count\":"
    ++ (decimal count ++ (codes ",\"text\":\"" ++ (others_words count ++ codes "\"}\n")))
    else []

abbrev pub newer_object : ℕ → ℕ → List ℕ
newer_object count value = if nat_lt 0 count
    then codes "{\"place\":\"syscalls\",\"kind\":\"NewerNames\",\"severity\":\"warning\",\"count\":"
    ++ (decimal count ++ (codes ",\"text\":\"" ++ (newer_words count value ++ codes "\"}\n")))
    else []

-- an object for each line
abbrev pub lint_objects : CallTable → Bool → List FindingKind → ℕ → List PassedData → List Finding → List ℕ
lint_objects calls all allowed value tolds finds = flat_map (told_line calls all allowed) tolds
    ++ (others_object (counted which.Others all allowed tolds)
    ++ (newer_object (counted which.Newer all allowed tolds) value ++ flat_map (found_line calls all allowed) finds))
