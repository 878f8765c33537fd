-- The kinds of findings and their severities, this project's own: docs/SEMANTICS.md, "What lint
-- reports".
use Rattle.std.specs.Prelude.{ℕ, List, [], ◌∷◌, codes, Option, Some, None, if◌then◌else◌, option_to_list}
use Rattle.std.specs.Str.{bytes_eq}
use Rattle.absent_names.specs.Kinds.{kind_of}
use Rattle.absent_names.specs.declared.kind.AbsentName.{AbsentName}
use Rattle.absent_names.specs.declared.kind.AbsentName.TheVariants as name
use Rattle.profile_advice.specs.declared.kind.Advice.{Advice}
use Rattle.profile_advice.specs.declared.kind.Advice.TheVariants as about
use Rattle.profile_lint.specs.declared.passed.Holder.{Holder}
use Rattle.profile_lint.specs.Passed.{PassedData, is_for_engines, is_recased}
use Rattle.profile_lint.specs.Passed.PassedData.{Ignored, OtherArchitectures, RepeatedName, UnknownArchitecture}
use Rattle.profile_lint.specs.Passed.PassedData.{UnknownName}
use Rattle.profile_lint.specs.declared.finding.Finding.{Finding}
use Rattle.profile_lint.specs.declared.finding.Finding.TheVariants as found
use Rattle.profile_lint.specs.declared.kinds.FindingKind.{FindingKind}
use Rattle.profile_lint.specs.declared.kinds.FindingKind.TheVariants as kind
use Rattle.profile_lint.specs.declared.kinds.Severity.{Severity}
use Rattle.profile_lint.specs.declared.kinds.Severity.TheVariants as severity

abbrev pub severity_text : Severity → List ℕ
severity_text severity.Note = codes "note"
severity_text severity.Warning = codes "warning"
severity_text severity.Error = codes "error"

abbrev pub kind_text : FindingKind → List ℕ
kind_text kind.Ignored = codes "Ignored"
kind_text kind.OtherArchitecture = codes "OtherArchitecture"
kind_text kind.NotImplemented = codes "NotImplemented"
kind_text kind.NewerName = codes "NewerName"
kind_text kind.UnknownName = codes "UnknownName"
kind_text kind.RepeatedName = codes "RepeatedName"
kind_text kind.NeverDecides = codes "NeverDecides"
kind_text kind.Redundant = codes "Redundant"
kind_text kind.NotFoundOut = codes "NotFoundOut"
kind_text kind.NotLookedAt = codes "NotLookedAt"
kind_text kind.NotCompared = codes "NotCompared"
kind_text kind.EnginesDiffer = codes "EnginesDiffer"
kind_text kind.Overlap = codes "Overlap"
kind_text kind.NewerCalls = codes "NewerCalls"
kind_text kind.ForEngines = codes "ForEngines"
kind_text kind.OtherCase = codes "OtherCase"
kind_text kind.UnknownArchitecture = codes "UnknownArchitecture"
kind_text kind.AlwaysHolds = codes "AlwaysHolds"
kind_text kind.UnusedValue = codes "UnusedValue"
kind_text kind.NoArgument = codes "NoArgument"
kind_text kind.WideArgument = codes "WideArgument"
kind_text kind.UnknownErrno = codes "UnknownErrno"
kind_text kind.ShadowedName = codes "ShadowedName"
kind_text kind.Bypass = codes "Bypass"
kind_text kind.Powerful = codes "Powerful"
kind_text kind.OldAnnotation = codes "OldAnnotation"

-- the place of a kind in their order: no two kinds have the same
abbrev pub rank_of : FindingKind → ℕ
rank_of kind.Ignored = 0
rank_of kind.OtherArchitecture = 1
rank_of kind.NotImplemented = 2
rank_of kind.NewerName = 3
rank_of kind.UnknownName = 4
rank_of kind.RepeatedName = 5
rank_of kind.NeverDecides = 6
rank_of kind.Redundant = 7
rank_of kind.NotFoundOut = 8
rank_of kind.NotLookedAt = 9
rank_of kind.NotCompared = 10
rank_of kind.EnginesDiffer = 11
rank_of kind.Overlap = 12
rank_of kind.NewerCalls = 13
rank_of kind.ForEngines = 14
rank_of kind.OtherCase = 15
rank_of kind.UnknownArchitecture = 16
rank_of kind.AlwaysHolds = 17
rank_of kind.UnusedValue = 18
rank_of kind.NoArgument = 19
rank_of kind.WideArgument = 20
rank_of kind.UnknownErrno = 21
rank_of kind.ShadowedName = 22
rank_of kind.Bypass = 23
rank_of kind.Powerful = 24
rank_of kind.OldAnnotation = 25

abbrev pub one_named : FindingKind → List ℕ → Option FindingKind → Option FindingKind
one_named kind name others = if bytes_eq name (kind_text kind) then Some kind else others

-- the kind with this name
abbrev pub kind_named : List ℕ → Option FindingKind
kind_named name = one_named kind.Ignored name (one_named kind.OtherArchitecture name
    (one_named kind.NotImplemented name (one_named kind.NewerName name (one_named kind.UnknownName name
    (one_named kind.RepeatedName name (one_named kind.NeverDecides name (one_named kind.Redundant name
    (one_named kind.NotFoundOut name (one_named kind.NotLookedAt name (one_named kind.NotCompared name
    (one_named kind.EnginesDiffer name (one_named kind.Overlap name (one_named kind.NewerCalls name
    (one_named kind.ForEngines name (one_named kind.OtherCase name (one_named kind.UnknownArchitecture name
    (one_named kind.AlwaysHolds name (one_named kind.UnusedValue name (one_named kind.NoArgument name
    (one_named kind.WideArgument name (one_named kind.UnknownErrno name (one_named kind.ShadowedName name
    (one_named kind.Bypass name (one_named kind.Powerful name (one_named kind.OldAnnotation name
    None)))))))))))))))))))))))))

-- the kinds that a word names: a kind, or the name of a line that counts the names of a kind
abbrev pub kinds_named : List ℕ → List FindingKind
kinds_named word =
    if bytes_eq word (codes "OtherNames") then kind.OtherArchitecture ∷ kind.NotImplemented ∷ []
    else if bytes_eq word (codes "NewerNames") then kind.NewerName ∷ []
    else option_to_list (kind_named word)

-- a misspelt name is an error; what may not be meant is a warning; what changes nothing, or is not known, a note
abbrev pub severity_of : FindingKind → Severity
severity_of kind.UnknownName = severity.Error
severity_of kind.Ignored = severity.Warning
severity_of kind.NewerName = severity.Warning
severity_of kind.NeverDecides = severity.Warning
severity_of kind.EnginesDiffer = severity.Warning
severity_of kind.Overlap = severity.Warning
severity_of kind.NewerCalls = severity.Warning
severity_of kind.OtherArchitecture = severity.Note
severity_of kind.NotImplemented = severity.Note
severity_of kind.RepeatedName = severity.Note
severity_of kind.Redundant = severity.Note
severity_of kind.NotFoundOut = severity.Note
severity_of kind.NotLookedAt = severity.Note
severity_of kind.NotCompared = severity.Note
severity_of kind.ForEngines = severity.Note
severity_of kind.OtherCase = severity.Warning
severity_of kind.UnknownArchitecture = severity.Error
severity_of kind.AlwaysHolds = severity.Warning
severity_of kind.UnusedValue = severity.Warning
severity_of kind.NoArgument = severity.Warning
severity_of kind.WideArgument = severity.Warning
severity_of kind.UnknownErrno = severity.Warning
severity_of kind.ShadowedName = severity.Warning
severity_of kind.Bypass = severity.Warning
severity_of kind.Powerful = severity.Note
severity_of kind.OldAnnotation = severity.Warning

abbrev pub kind_of_name : AbsentName → FindingKind
kind_of_name (name.Newer number) = kind.NewerName
kind_of_name name.NotImplemented = kind.NotImplemented
kind_of_name name.OtherArchitecture = kind.OtherArchitecture
kind_of_name name.Unknown = kind.UnknownName

abbrev pub kind_of_member : Holder → List ℕ → FindingKind
kind_of_member holder key = if is_recased holder key then kind.OtherCase
    else if is_for_engines holder key then kind.ForEngines else kind.Ignored

abbrev pub kind_of_told : PassedData → FindingKind
kind_of_told (Ignored holder key) = kind_of_member holder key
kind_of_told OtherArchitectures = kind.Ignored
kind_of_told (UnknownArchitecture index text) = kind.UnknownArchitecture
kind_of_told (UnknownName entry index text) = kind_of_name (kind_of text)
kind_of_told (RepeatedName entry index text) = kind.RepeatedName

unfoldable pub kind_of_advice : Advice → FindingKind
kind_of_advice (about.AlwaysHolds place at) = kind.AlwaysHolds
kind_of_advice (about.UnusedValue place at) = kind.UnusedValue
kind_of_advice (about.NoArgument place at number) = kind.NoArgument
kind_of_advice (about.WideArgument place at call here cut) = kind.WideArgument
kind_of_advice (about.UnknownErrno place code) = kind.UnknownErrno
kind_of_advice (about.UnknownDefaultErrno code) = kind.UnknownErrno
kind_of_advice (about.ShadowedName place number earlier) = kind.ShadowedName
kind_of_advice (about.RepeatedName place number earlier) = kind.RepeatedName
kind_of_advice (about.Bypass number call) = kind.Bypass
kind_of_advice (about.Powerful number) = kind.Powerful

abbrev pub kind_of_found : Finding → FindingKind
kind_of_found (found.NeverDecides place) = kind.NeverDecides
kind_of_found (found.Redundant place) = kind.Redundant
kind_of_found (found.NotFoundOut place) = kind.NotFoundOut
kind_of_found (found.NotLookedAt place) = kind.NotLookedAt
kind_of_found (found.NotCompared place) = kind.NotCompared
kind_of_found (found.EnginesDiffer place call values) = kind.EnginesDiffer
kind_of_found (found.Overlap place other call) = kind.Overlap
kind_of_found (found.NewerCalls errno) = kind.NewerCalls
kind_of_found (found.Advised advice) = kind_of_advice advice
