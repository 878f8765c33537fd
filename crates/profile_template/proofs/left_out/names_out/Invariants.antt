-- The names left out so far, followed by those of the other names, are all of them.
use Rattle.std.proofs.Common.{◌≡◌, ◌++◌, drop, map}
use Rattle.std.specs.Prelude.{filter_map, string_bytes}
use Rattle.std.specs.List.{enumerate_from}
use Rattle.profile_template.specs.Resolved.{name_out}
use Rattle.profile_template.proofs.left_out.names_out.Given as goal

abbrev pub invariant-loop-index : goal.invariant-loop-index
invariant-loop-index l = l.found.items ++ filter_map (name_out l.calls l.is_stricter l.entry)
    (enumerate_from l.index (map string_bytes (drop l.index l.names)))
    ≡ filter_map (name_out l.calls l.is_stricter l.entry) (enumerate_from 0 (map string_bytes l.names))
