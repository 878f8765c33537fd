-- Whether the names from this one on have the text says whether all do.
use Rattle.std.proofs.Common.{◌≡◌, map, drop}
use Rattle.std.specs.List.{list_any}
use Rattle.std.specs.Str.{bytes_eq}
use Rattle.profile_learn.specs.Needed.{is_needed_name}
use Rattle.profile_learn.proofs.needed.is_needed_name.Given as goal

abbrev pub invariant-loop-other : goal.invariant-loop-other
invariant-loop-other l = list_any (λ other. bytes_eq l.name other)
    (map (λ text. text.now) (drop l.other-index l.other-items)) ≡ is_needed_name l.name
