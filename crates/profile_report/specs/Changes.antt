-- How a report shows the calls on which two profiles differ, this project's own: docs/SEMANTICS.md, "A report".
use Rattle.std.specs.Prelude.{ℕ, ◌-◌, ◌==◌, ◌&&◌, Bool, false, if◌then◌else◌, List, [], ◌∷◌, ◌++◌, codes, length}
use Rattle.std.specs.Fmt.{decimal}
use Rattle.std.specs.List.{list_any}
use Rattle.filter_differences.specs.declared.part.Part.{Part}
use Rattle.filter_differences.specs.declared.part.Part.TheVariants.{Numbers, Later, X32, OtherArchitectures}
use Rattle.seccheck_differences.specs.declared.line.Line.{Line}
use Rattle.seccheck_differences.specs.declared.line.Line.TheVariants.{Differs, Undecided}
use Rattle.seccheck_differences.specs.Texts.{line_text, side_text}
use Rattle.profile_report.specs.More.{more_text}
use Rattle.profile_report.specs.Escaped.{html_text}
use Rattle.profile_report.specs.Ways.{first}
use Rattle.profile_report.specs.declared.changes.TheConstants.{SHOWN_CHANGES}
use Rattle.sys_table.specs.declared.calls.CallTable.{CallTable}

-- the calls with this number alone
abbrev pub is_part_of : ℕ → Part → Bool
is_part_of nr (Numbers low high) = (low == nr) && (high == nr)
is_part_of nr Later = false
is_part_of nr X32 = false
is_part_of nr OtherArchitectures = false

-- whether a line is about the calls with this number alone
abbrev pub is_on : ℕ → Line → Bool
is_on nr (Differs part call one other) = is_part_of nr part
is_on nr (Undecided part why) = is_part_of nr part

abbrev pub is_changed : ℕ → List Line → Bool
is_changed nr lines = list_any (is_on nr) lines

-- both decisions, that of the old profile first
unfoldable pub change_html : Line → List ℕ
change_html (Differs part call one other) =
    codes "<p>was " ++ (side_text one ++ (codes ", is " ++ (side_text other ++ codes "</p>")))
change_html (Undecided part why) = codes "<p>it was not found out whether this differs</p>"

unfoldable pub change_at : ℕ → Line → List ℕ
change_at nr line = if is_on nr line then change_html line else []

-- what differs at the calls with this number
abbrev pub changes_at : ℕ → List Line → List ℕ
changes_at nr [] = []
changes_at nr (line ∷ lines) = change_at nr line ++ changes_at nr lines

-- a line as `table --against` prints it
abbrev pub change_items : CallTable → List Line → List ℕ
change_items calls [] = []
change_items calls (line ∷ lines) =
    codes "<li>" ++ (line_text calls line ++ (codes "</li>\n" ++ change_items calls lines))

-- the old profile, and how many calls differ
unfoldable pub changes_head : List ℕ → ℕ → List ℕ
changes_head old count =
    codes "<section id=\"differences\"><h2>Differences from " ++ (html_text 200 old
    ++ (codes "</h2>\n<p>Calls that differ: " ++ (decimal count
    ++ codes ". The first decision is the old one.</p>\n<ul>\n")))

-- the differences from an old profile
abbrev pub changes_html : CallTable → List ℕ → List Line → List ℕ
changes_html calls old lines =
    changes_head old (length lines) ++ (change_items calls (first SHOWN_CHANGES lines)
    ++ (more_text (codes "<li>") (length lines - SHOWN_CHANGES)
    (codes " more, which <code>seccheck table --against</code> prints</li>\n") ++ codes "</ul></section>\n"))
