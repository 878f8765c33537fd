-- What is written so far, followed by the remaining characters as shown, is the whole name as shown.
use Rattle.std.proofs.Common.{◌≡◌, ◌++◌, ℕ, List, IsUtf8, chars}
use Rattle.std.specs.Prelude.{flat_map}
use Rattle.std.specs.Fmt.{HasWritten, IsPlainFormatter}
use Rattle.std.specs.Str.Iter.{chars_rest}
use Rattle.json_place.specs.Quoted.{escaped}
use Rattle.fault_notes.specs.Paths.{shown_path}
use Rattle.fault_notes.proofs.paths.ShownPathDisplay.fmt.Given as goal

abbrev pub invariant-loop-c : goal.invariant-loop-c
invariant-loop-c g l =
    IsUtf8 (chars_rest l.c-iterator)
    × ((IsPlainFormatter l.fn.f → (done : List ℕ) × HasWritten g.W.Write.write_str_gives l.fn.f done l.f
    × (done ++ flat_map escaped (chars (chars_rest l.c-iterator)) ≡ shown_path l.self.0.now)))
