-- What was written, followed by what is written from here on, is the whole text.
use Rattle.std.proofs.Common.{◌≡◌, ◌++◌, drop}
use Rattle.std.specs.Prelude.{flat_map, string_bytes}
use Rattle.profile_lint.specs.Text.{found_line}
use Rattle.profile_lint.proofs.lines.add_profile.Given as goal

abbrev pub invariant-loop-finding : goal.invariant-loop-finding
invariant-loop-finding l = string_bytes l.text
    ++ flat_map (found_line l.calls l.choice.is_all l.choice.allowed.now) (drop l.finding-index l.found)
    ≡ string_bytes l.initial.text ++ flat_map (found_line l.calls l.choice.is_all l.choice.allowed.now) l.found
