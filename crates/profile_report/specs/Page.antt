-- The page of a report: HTML Living Standard; what it has is this project's own: docs/SEMANTICS.md, "A report".
use Rattle.std.specs.Prelude.{◌≡◌, ℕ, List, ◌++◌, codes, length, map}
use Rattle.std.specs.Fmt.{decimal}
use Rattle.std.specs.List.{All}
use Rattle.oci_profile.specs.declared.profile.Profile.{Profile}
use Rattle.profile_lint.specs.declared.finding.Finding.{Finding}
use Rattle.profile_lint.specs.declared.passed.Passed.{Passed}
use Rattle.sys_table.specs.SysTable.{limit_of}
use Rattle.sys_table.specs.declared.calls.CallTable.{CallTable}
use Rattle.profile_table.specs.Rows.{IsRowOf, named_below}
use Rattle.profile_table.specs.declared.row.Row.{Row}
use Rattle.seccheck_differences.specs.declared.line.Line.{Line}
use Rattle.profile_report.specs.Entries.{entries_html}
use Rattle.profile_report.specs.Escaped.{html_text}
use Rattle.profile_report.specs.Grid.{grid_html}
use Rattle.profile_report.specs.Tallies.{tallies_html}
use Rattle.profile_report.specs.declared.document.Parts.{Parts}
use Rattle.profile_report.specs.declared.document.Report.{Report}

-- the head: nothing is loaded from elsewhere, and no script runs
unfoldable pub head_html : List ℕ → List ℕ → List ℕ
head_html style name =
    codes "<!doctype html>\n<html lang=\"en\">\n<head>\n<meta charset=\"utf-8\">\n<meta name=\"viewport\" content=\"width=device-width, initial-scale=1\">\n<meta http-equiv=\"Content-Security-Policy\" content=\"default-src 'none'; style-src 'unsafe-inline'\">\n<title>seccomp profile "
    ++ (html_text 200 name ++ (codes "</title>\n<style>" ++ (style ++ (codes "</style>\n</head>\n<body>\n<header>\n<h1>seccomp profile <code>"
    ++ (html_text 200 name ++ codes "</code></h1>\n")))))

-- how many calls and entries there are
unfoldable pub calls_head : ℕ → ℕ → List ℕ
calls_head calls entries =
    codes "<p>" ++ (decimal calls ++ (codes " calls, " ++ (decimal entries
    ++ codes " entries. The first entry that names a call and whose conditions hold decides it.</p>\n</header>\n<main>\n<section id=\"calls\"><h2>Calls</h2>\n<ul class=\"k\">\n")))

-- what the marks mean
unfoldable pub marks : List ℕ
marks = codes "</ul>\n<p>? and a dashed edge: entries with conditions may decide first. &ne; and a frame: differs from the old profile. Open a cell for what decides.</p>\n<div class=\"g\">\n"

-- the calls: how many have each action, and the grid
unfoldable pub calls_html : CallTable → Profile → List Line → List Row → List ℕ
calls_html calls profile lines rows =
    calls_head (length rows) (length profile.entries) ++ (tallies_html rows ++ (marks
    ++ (grid_html calls profile lines rows ++ codes "</div></section>\n")))

-- the entries
unfoldable pub section_html : CallTable → Profile → List Passed → List Finding → List ℕ
section_html calls profile passed finds =
    codes "<section id=\"entries\"><h2>Entries</h2>\n<div class=\"e\">\n"
    ++ (entries_html calls profile passed finds ++ codes "</div></section>\n")

-- the page down to the differences
unfoldable pub upper_part : List ℕ → Report → List Row → Parts → List ℕ
upper_part style report rows parts =
    head_html style report.name.now
    ++ (calls_html report.calls report.profile.now report.lines.now rows ++ parts.changes.now)

-- the page from the entries on
unfoldable pub lower_part : Report → Parts → List ℕ
lower_part report parts =
    section_html report.calls report.profile.now report.passed.now report.found.now
    ++ (parts.tree.now ++ (parts.denied.now ++ codes "</main>\n</body>\n</html>\n"))

-- the page
abbrev pub page_html : List ℕ → Report → List Row → Parts → List ℕ
page_html style report rows parts = upper_part style report rows parts ++ lower_part report parts

-- a page of a profile: there is one cell for each of these calls, in order, and its decision is what
-- `explain` returns for the call
pub record IsPage (style : List ℕ) (report : Report) (parts : Parts) (page : List ℕ) : Type 0 where
  pub rows : List Row
  pub each : map (λ row. row.nr) rows ≡ named_below report.calls (limit_of report.calls)
  pub real : All (IsRowOf report.calls report.profile.now) rows
  pub is : page ≡ page_html style report rows parts
