-- Which findings are printed, and which make the status 1: this project's own, docs/SEMANTICS.md, "What is
-- told of a profile".
use Rattle.std.specs.Prelude.{ℕ, ◌+◌, ◌==◌, nat_lt, List, [], ◌∷◌, Bool, true, false, not, ◌&&◌, ◌||◌}
use Rattle.std.specs.List.{list_any}
use Rattle.profile_lint.specs.Passed.{PassedData, told}
use Rattle.profile_lint.specs.declared.passed.Passed.{Passed}
use Rattle.profile_lint.specs.declared.finding.Finding.{Finding}
use Rattle.profile_lint.specs.declared.choice.Tally.{Tally}
use Rattle.profile_lint.specs.declared.choice.Tally.TheVariants as which
use Rattle.profile_lint.specs.declared.kinds.FindingKind.{FindingKind}
use Rattle.profile_lint.specs.declared.kinds.FindingKind.TheVariants as kind
use Rattle.profile_lint.specs.declared.kinds.Severity.{Severity}
use Rattle.profile_lint.specs.declared.kinds.Severity.TheVariants as severity
use Rattle.profile_lint.specs.Kinds.{kind_of_found, kind_of_told, rank_of, severity_of}

abbrev pub is_same : FindingKind → FindingKind → Bool
is_same kind other = rank_of kind == rank_of other

abbrev pub is_allowed : List FindingKind → FindingKind → Bool
is_allowed allowed kind = list_any (is_same kind) allowed

-- kinds of which a profile may have hundreds
abbrev pub is_counted : FindingKind → Bool
is_counted kind.OtherArchitecture = true
is_counted kind.NotImplemented = true
is_counted kind.NewerName = true
is_counted _ = false

-- whether a finding of this kind has a line of its own
abbrev pub is_shown : Bool → List FindingKind → FindingKind → Bool
is_shown all allowed kind = not (is_allowed allowed kind) && (all || not (is_counted kind))

abbrev pub is_grave : Severity → Bool
is_grave severity.Note = false
is_grave severity.Warning = true
is_grave severity.Error = true

abbrev pub is_bad_kind : List FindingKind → FindingKind → Bool
is_bad_kind allowed kind = not (is_allowed allowed kind) && is_grave (severity_of kind)

-- a warning or an error is among the findings, of a kind that is not allowed
abbrev pub is_bad : List FindingKind → List Passed → List Finding → Bool
is_bad allowed passed found = list_any (λ p. is_bad_kind allowed (kind_of_told (told p))) passed
    || list_any (λ f. is_bad_kind allowed (kind_of_found f)) found

abbrev pub is_of : Tally → FindingKind → Bool
is_of which.Others kind.OtherArchitecture = true
is_of which.Others kind.NotImplemented = true
is_of which.Newer kind.NewerName = true
is_of which.Grave kind = is_grave (severity_of kind) && not (is_counted kind)
is_of _ _ = false

-- whether a name of this kind is counted among these
abbrev pub is_in_count : Tally → Bool → List FindingKind → FindingKind → Bool
is_in_count wanted all allowed kind = not all && (not (is_allowed allowed kind) && is_of wanted kind)

abbrev pub one_if : Bool → ℕ
one_if true = 1
one_if false = 0

-- how many findings about the text are only counted, of these
abbrev pub counted : Tally → Bool → List FindingKind → List PassedData → ℕ
counted wanted all allowed [] = 0
counted wanted all allowed (told ∷ tolds) =
    one_if (is_in_count wanted all allowed (kind_of_told told)) + counted wanted all allowed tolds

-- how many warnings and errors have a line each
abbrev pub grave_count : List PassedData → ℕ
grave_count tolds = counted which.Grave false [] tolds

abbrev pub has_newer_names : List PassedData → Bool
has_newer_names tolds = nat_lt 0 (counted which.Newer false [] tolds)
