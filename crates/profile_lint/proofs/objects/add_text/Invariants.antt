-- What was written, followed by what is written from here on, is the whole text.
use Rattle.std.proofs.Common.{◌≡◌, ◌++◌, drop, map}
use Rattle.std.specs.Prelude.{flat_map, string_bytes}
use Rattle.profile_lint.specs.Objects.{told_line}
use Rattle.profile_lint.specs.Passed.{told}
use Rattle.profile_lint.proofs.objects.add_text.Given as goal

abbrev pub invariant-loop-item : goal.invariant-loop-item
invariant-loop-item l = string_bytes l.text
    ++ flat_map (told_line l.calls l.choice.is_all l.choice.allowed.now) (map told (drop l.item-index l.passed))
    ≡ string_bytes l.initial.text ++ flat_map (told_line l.calls l.choice.is_all l.choice.allowed.now) (map told l.passed)
