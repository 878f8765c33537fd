-- The findings of `lint` beside the entries that they are about, this project's own: docs/SEMANTICS.md, "A
-- report".
use Rattle.std.specs.Prelude.{ℕ, ◌-◌, ◌==◌, Bool, true, false, if◌then◌else◌, List, [], ◌∷◌, ◌++◌, codes}
use Rattle.std.specs.Prelude.{length, Option, Some, None}
use Rattle.profile_advice.specs.Entries as advised
use Rattle.sys_table.specs.declared.calls.CallTable.{CallTable}
use Rattle.profile_lint.specs.declared.finding.Finding.{Finding}
use Rattle.profile_lint.specs.declared.finding.Finding.TheVariants as found
use Rattle.profile_lint.specs.declared.passed.Holder.{Holder}
use Rattle.profile_lint.specs.declared.passed.Holder.TheVariants as of
use Rattle.profile_lint.specs.declared.passed.Passed.{Passed}
use Rattle.profile_lint.specs.Passed.{PassedData, told}
use Rattle.profile_lint.specs.Passed.PassedData.{Ignored, OtherArchitectures, RepeatedName, UnknownArchitecture}
use Rattle.profile_lint.specs.Passed.PassedData.{UnknownName}
use Rattle.profile_lint.specs.Text.{found_text, told_text}
use Rattle.profile_report.specs.More.{more_text}
use Rattle.profile_report.specs.Escaped.{html_text}
use Rattle.profile_report.specs.Ways.{first}

-- the entry that a member belongs to
abbrev pub entry_of : Holder → Option ℕ
entry_of of.Profile = None
entry_of (of.Entry entry) = Some entry
entry_of (of.Arg entry arg) = Some entry

-- the entry that a finding about the text is about
abbrev pub passed_about : PassedData → Option ℕ
passed_about (Ignored holder key) = entry_of holder
passed_about OtherArchitectures = None
passed_about (UnknownArchitecture index name) = None
passed_about (UnknownName entry index name) = Some entry
passed_about (RepeatedName entry index name) = Some entry

-- the entry that a finding about the profile is about: the first one of two that overlap
abbrev pub found_about : Finding → Option ℕ
found_about (found.NeverDecides place) = Some place
found_about (found.Redundant place) = Some place
found_about (found.NotFoundOut place) = Some place
found_about (found.NotLookedAt place) = Some place
found_about (found.NotCompared place) = Some place
found_about (found.EnginesDiffer place call values) = Some place
found_about (found.Overlap place other call) = Some place
found_about (found.NewerCalls errno) = None
found_about (found.Advised advice) = advised.entry_of advice

abbrev pub is_about : Option ℕ → Option ℕ → Bool
is_about None None = true
is_about (Some place) (Some other) = place == other
is_about None (Some other) = false
is_about (Some place) None = false

-- the line of a finding, if it is about this entry, or about none if none is meant
unfoldable pub passed_line : CallTable → Option ℕ → PassedData → List (List ℕ)
passed_line calls about t = if is_about (passed_about t) about then told_text calls t ∷ [] else []

unfoldable pub found_line : CallTable → Option ℕ → Finding → List (List ℕ)
found_line calls about f = if is_about (found_about f) about then found_text calls f ∷ [] else []

-- the lines about the text, in order
abbrev pub passed_lines : CallTable → Option ℕ → List Passed → List (List ℕ)
passed_lines calls about [] = []
passed_lines calls about (item ∷ passed) = passed_line calls about (told item) ++ passed_lines calls about passed

-- the lines about the profile, in order
abbrev pub found_lines : CallTable → Option ℕ → List Finding → List (List ℕ)
found_lines calls about [] = []
found_lines calls about (finding ∷ finds) = found_line calls about finding ++ found_lines calls about finds

-- a finding: 160 bytes of each are shown
abbrev pub items_html : List (List ℕ) → List ℕ
items_html [] = []
items_html (line ∷ lines) = codes "<li>" ++ (html_text 160 line ++ (codes "</li>\n" ++ items_html lines))

-- the first findings, and how many more there are
unfoldable pub list_html : ℕ → List (List ℕ) → List ℕ
list_html count lines =
    codes "<ul class=\"n\">\n" ++ (items_html (first count lines) ++ (more_text (codes "<li>") (length lines - count)
    (codes " more, which <code>seccheck lint</code> prints</li>\n")
    ++ codes "</ul>\n"))

-- nothing if there is no finding
unfoldable pub notes_html : ℕ → List (List ℕ) → List ℕ
notes_html count lines = if length lines == 0 then [] else list_html count lines

-- the findings about this entry, or about none
abbrev pub notes_about : CallTable → ℕ → Option ℕ → List Passed → List Finding → List ℕ
notes_about calls count about passed finds =
    notes_html count (passed_lines calls about passed ++ found_lines calls about finds)
