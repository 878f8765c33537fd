-- What was written, followed by what is to be written from here on, is the whole text.
use Rattle.std.proofs.Common.{◌≡◌, ◌++◌, drop}
use Rattle.std.specs.Prelude.{string_bytes}
use Rattle.profile_table.specs.Text.{entry_lines}
use Rattle.profile_table.proofs.texts.entry_lines.Given as goal

abbrev pub invariant-loop-place : goal.invariant-loop-place
invariant-loop-place l = string_bytes l.text ++ entry_lines l.calls l.rows l.place (drop l.place l.entries)
    ≡ entry_lines l.calls l.rows 0 l.entries
