-- The printed findings about a profile, this project's own: docs/SEMANTICS.md, "What lint reports".
use Rattle.std.specs.Prelude.{ℕ, ◌==◌, nat_le, not, Bool, ◌&&◌, ◌||◌, if◌then◌else◌, List, [], ◌++◌, codes}
use Rattle.std.specs.Prelude.{length, flat_map, nat_lt, ◌-◌, Option, Some, None}
use Rattle.std.specs.List.{list_all}
use Rattle.action.specs.Errnos.{shown_errno}
use Rattle.action.specs.Shown.{value_text}
use Rattle.action.specs.Verdict.{verdict_of}
use Rattle.action.specs.declared.action.Action.{Action}
use Rattle.action.specs.declared.action.Action.TheVariants as act
use Rattle.absent_names.specs.Kinds.{kind_of}
use Rattle.absent_names.specs.Near.{suggestion}
use Rattle.absent_names.specs.declared.kind.AbsentName.{AbsentName}
use Rattle.absent_names.specs.declared.kind.AbsentName.TheVariants as absent
use Rattle.std.specs.Str.{bytes_eq}
use Rattle.std.specs.Fmt.{decimal}
use Rattle.call_names.specs.Words.{words_text}
use Rattle.json_place.specs.Quoted.{quoted_text}
use Rattle.json_place.specs.declared.quoted.TheConstants.{MAX_SHOWN}
use Rattle.profile_lint.specs.declared.passed.Holder.{Holder}
use Rattle.profile_lint.specs.declared.passed.Holder.TheVariants as of
use Rattle.profile_lint.specs.declared.finding.Finding.{Finding}
use Rattle.profile_lint.specs.declared.finding.Finding.TheVariants as found
use Rattle.profile_lint.specs.declared.kinds.FindingKind.{FindingKind}
use Rattle.profile_lint.specs.declared.choice.Tally.TheVariants as which
use Rattle.profile_lint.specs.Choice.{counted, is_shown}
use Rattle.profile_lint.specs.Kinds.{kind_of_found, kind_of_told, kind_text, severity_of, severity_text}
use Rattle.sys_table.specs.SysTable.{limit_of}
use Rattle.sys_table.specs.declared.calls.CallTable.{CallTable}
use Rattle.profile_lint.specs.Advised.{advice_place, advice_words, entry_place}
use Rattle.profile_lint.specs.Passed.{PassedData, is_recased}
use Rattle.profile_lint.specs.Passed.PassedData.{Ignored, OtherArchitectures, RepeatedName, UnknownArchitecture}
use Rattle.profile_lint.specs.Passed.PassedData.{UnknownName}

-- the prefix of a member's key
abbrev pub holder_text : Holder → List ℕ
holder_text of.Profile = []
holder_text (of.Entry entry) = codes "syscalls[" ++ (decimal entry ++ codes "].")
holder_text (of.Arg entry arg) = codes "syscalls[" ++ (decimal entry ++ (codes "].args["
    ++ (decimal arg ++ codes "].")))

-- ASCII letters, digits and _
abbrev pub is_plain_byte : ℕ → Bool
is_plain_byte b = (nat_le 97 b && nat_le b 122) || ((nat_le 65 b && nat_le b 90)
    || ((nat_le 48 b && nat_le b 57) || (b == 95)))

-- a key of only these is written as it is, any other in quotes
unfoldable pub is_plain : List ℕ → Bool
is_plain key = not (length key == 0) && (nat_le (length key) MAX_SHOWN && list_all is_plain_byte key)

abbrev pub key_text : List ℕ → List ℕ
key_text key = if is_plain key then key else quoted_text key

-- what a member would have meant
unfoldable pub words_of : List ℕ → List ℕ
words_of key =
    if bytes_eq key (codes "includes") then codes "a template takes the entry under these conditions alone"
    else if bytes_eq key (codes "excludes")
    then codes "a template leaves the entry out under these conditions"
    else if bytes_eq key (codes "minKernel") then codes "a template takes the entry from this kernel on"
    else if bytes_eq key (codes "archMap") then codes "a template has its architectures from here"
    else if bytes_eq key (codes "name") then codes "a template has the entry's one call here"
    else if bytes_eq key (codes "errno") then codes "a template has the errno by name here"
    else if bytes_eq key (codes "defaultErrno") then codes "a template has the errno by name here"
    else if bytes_eq key (codes "syscall") then codes "calls stand in names"
    else if bytes_eq key (codes "flags") then codes "engines hand them to seccomp(2)"
    else if bytes_eq key (codes "listenerPath") then codes "engines send calls to this socket"
    else if bytes_eq key (codes "listenerMetadata") then codes "engines send this with calls"
    else codes "linux.seccomp has no such field"

abbrev pub near_text : Option (List ℕ) → List ℕ
near_text None = codes " is no call"
near_text (Some call) = codes " is no call (did you mean " ++ (call ++ codes "?)")

-- what a name is that the call table lacks
abbrev pub absent_text : CallTable → List ℕ → AbsentName → List ℕ
absent_text calls name (absent.Newer number) = codes " is call " ++ (decimal number ++ codes ", newer than the table")
absent_text calls name absent.NotImplemented = codes " is not implemented on x86-64"
absent_text calls name absent.OtherArchitecture = codes " is a call of other architectures"
absent_text calls name absent.Unknown = near_text (suggestion calls name)

abbrev pub name_words : CallTable → List ℕ → List ℕ
name_words calls name = quoted_text name ++ absent_text calls name (kind_of name)

abbrev pub name_place : ℕ → ℕ → List ℕ
name_place entry index = codes "syscalls[" ++ (decimal entry ++ (codes "].names["
    ++ (decimal index ++ codes "]")))

abbrev pub told_place : PassedData → List ℕ
told_place (Ignored holder key) = holder_text holder ++ key_text key
told_place OtherArchitectures = codes "architectures"
told_place (UnknownArchitecture index name) = codes "architectures[" ++ (decimal index ++ codes "]")
told_place (UnknownName entry index name) = name_place entry index
told_place (RepeatedName entry index name) = name_place entry index

abbrev pub told_words : CallTable → PassedData → List ℕ
told_words calls (Ignored holder key) = if is_recased holder key
    then codes "runc reads it in any case, and crun does not" else words_of key
told_words calls OtherArchitectures = codes "x86-64 is not among them, and only its calls are decided"
told_words calls (UnknownArchitecture index name) = quoted_text name ++ codes " is no architecture"
told_words calls (UnknownName entry index name) = name_words calls name
told_words calls (RepeatedName entry index name) = quoted_text name ++ codes " is repeated"

-- a place, a kind and words
abbrev pub text_of : List ℕ → List ℕ → List ℕ → List ℕ
text_of place kind words = place ++ (codes ": " ++ (kind ++ (codes ": " ++ words)))

abbrev pub told_text : CallTable → PassedData → List ℕ
told_text calls told = text_of (told_place told) (kind_text (kind_of_told told)) (told_words calls told)

abbrev pub found_place : Finding → List ℕ
found_place (found.NeverDecides place) = entry_place place
found_place (found.Redundant place) = entry_place place
found_place (found.NotFoundOut place) = entry_place place
found_place (found.NotLookedAt place) = entry_place place
found_place (found.NotCompared place) = entry_place place
found_place (found.EnginesDiffer place call values) = entry_place place
found_place (found.Overlap place other call) = entry_place place
found_place (found.NewerCalls errno) = codes "defaultAction"
found_place (found.Advised advice) = advice_place advice

-- the value that runc may have in place of that of the order of entries
abbrev pub instead_words : Option ℕ → List ℕ
instead_words None = []
instead_words (Some value) =
    codes ", or " ++ (value_text value ++ codes ": libseccomp does not keep the order of entries")

abbrev pub found_words : CallTable → Finding → List ℕ
found_words calls (found.NeverDecides place) = codes "it decides no call"
found_words calls (found.Redundant place) = codes "what follows decides its calls the same way"
found_words calls (found.NotFoundOut place) = codes "it may decide no call, or be redundant"
found_words calls (found.NotLookedAt place) = codes "from here on entries may decide no call, or be redundant"
found_words calls (found.NotCompared place) = codes "from here on engines may read entries differently"
found_words calls (found.EnginesDiffer place call values) = codes "at " ++ (words_text calls call ++ (codes ": "
    ++ (value_text values.here ++ (codes " here, " ++ (value_text values.there ++ (codes " by runc"
    ++ instead_words values.instead))))))
found_words calls (found.Overlap place other call) = codes "at " ++ (words_text calls call ++ (codes ": syscalls["
    ++ (decimal other ++ codes "] decides otherwise, and libseccomp does not keep their order")))
found_words calls (found.NewerCalls errno) = codes "calls newer than " ++ (decimal (limit_of calls - 1)
    ++ (codes " return errno "
    ++ (shown_errno errno ++ codes ", and programs fall back to older calls only on errno 38 (ENOSYS)")))
found_words calls (found.Advised advice) = advice_words calls advice

abbrev pub found_text : CallTable → Finding → List ℕ
found_text calls found = text_of (found_place found) (kind_text (kind_of_found found)) (found_words calls found)

abbrev pub line_of : List ℕ → List ℕ
line_of text = text ++ codes "\n"

-- a finding with the severity of its kind
abbrev pub graded : FindingKind → List ℕ → List ℕ
graded kind text = line_of (severity_text (severity_of kind) ++ (codes ": " ++ text))

abbrev pub told_line : CallTable → Bool → List FindingKind → PassedData → List ℕ
told_line calls all allowed told = if is_shown all allowed (kind_of_told told)
    then graded (kind_of_told told) (told_text calls told) else []

abbrev pub found_line : CallTable → Bool → List FindingKind → Finding → List ℕ
found_line calls all allowed found = if is_shown all allowed (kind_of_found found)
    then graded (kind_of_found found) (found_text calls found) else []

-- names that are no calls of x86-64, as many as there are
abbrev pub others_words : ℕ → List ℕ
others_words count = if count == 1 then codes "1 name is not a call of x86-64 (--all prints it)"
    else decimal count ++ codes " names are not calls of x86-64 (--all prints each)"

abbrev pub end_of : Action → List ℕ
end_of act.KillProcess = codes ", which ends the program"
end_of act.KillThread = codes ", which ends the program"
end_of act.Trap = codes ", which ends the program"
end_of _ = []

abbrev pub end_text : ℕ → List ℕ
end_text value = end_of (verdict_of value).action

-- names of newer calls, as many as there are, and the value that these calls get
abbrev pub newer_words : ℕ → ℕ → List ℕ
newer_words count value = if count == 1
    then codes "1 call newer than the table gets " ++ (value_text value ++ (end_text value
    ++ codes " (--all prints it)"))
    else decimal count ++ (codes " calls newer than the table get " ++ (value_text value ++ (end_text value
    ++ codes " (--all prints each)")))

abbrev pub others_line : ℕ → List ℕ
others_line count = if nat_lt 0 count
    then line_of (codes "note: syscalls: OtherNames: " ++ others_words count) else []

abbrev pub newer_line : ℕ → ℕ → List ℕ
newer_line count value = if nat_lt 0 count
    then line_of (codes "warning: syscalls: NewerNames: " ++ newer_words count value) else []

abbrev pub told_lines : CallTable → Bool → List FindingKind → List PassedData → List ℕ
told_lines calls all allowed tolds = flat_map (told_line calls all allowed) tolds

abbrev pub found_lines : CallTable → Bool → List FindingKind → List Finding → List ℕ
found_lines calls all allowed finds = flat_map (found_line calls all allowed) finds

-- the findings about the text, the counts of names, and the findings about the profile
abbrev pub lint_text : CallTable → Bool → List FindingKind → ℕ → List PassedData → List Finding → List ℕ
lint_text calls all allowed value tolds finds = told_lines calls all allowed tolds
    ++ (others_line (counted which.Others all allowed tolds)
    ++ (newer_line (counted which.Newer all allowed tolds) value ++ found_lines calls all allowed finds))
