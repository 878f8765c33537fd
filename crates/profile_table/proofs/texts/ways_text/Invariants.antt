-- What was written, followed by what is to be written from here on, is the whole text.
use Rattle.std.proofs.Common.{◌≡◌, ◌++◌, drop}
use Rattle.std.specs.Prelude.{string_bytes}
use Rattle.profile_table.specs.Text.{ways_text}
use Rattle.profile_table.proofs.texts.ways_text.Given as goal

abbrev pub invariant-loop-place : goal.invariant-loop-place
invariant-loop-place l = string_bytes l.text ++ ways_text l.row l.place (drop l.place l.entries)
    ≡ ways_text l.row 0 l.entries
