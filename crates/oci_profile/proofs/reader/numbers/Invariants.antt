-- The numbers of the names so far, followed by those of the others, are the numbers of all.
use Rattle.std.proofs.Common.{◌≡◌, ◌++◌, map, drop}
use Rattle.std.specs.Prelude.{filter_map}
use Rattle.serde_json.specs.View.{view}
use Rattle.oci_profile.specs.Profile.{number_named}
use Rattle.oci_profile.proofs.reader.numbers.Given as goal

abbrev pub invariant-loop-name : goal.invariant-loop-name
invariant-loop-name l = l.numbers.items ++ filter_map (number_named l.calls) (map view (drop l.name-index l.names))
    ≡ filter_map (number_named l.calls) (map view l.names)
