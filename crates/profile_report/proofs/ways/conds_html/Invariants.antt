-- What was written, followed by what is to be written from here on, is the whole text.
use Rattle.std.proofs.Common.{◌≡◌, ◌++◌, drop}
use Rattle.std.specs.Prelude.{string_bytes}
use Rattle.profile_report.specs.Ways.{conds_html}
use Rattle.profile_report.proofs.ways.conds_html.Given as goal

abbrev pub invariant-loop-place : goal.invariant-loop-place
invariant-loop-place l = string_bytes l.text ++ conds_html l.place (drop l.place l.conds)
    ≡ conds_html 0 l.conds
