-- Each number of a name is below the table's limit.
use Rattle.std.proofs.Common.{◌≡◌, map, sym, subst, append-nil, arith}
use Rattle.std.specs.Prelude.{filter_map}
use Rattle.std.proofs.lemmas.List.{drop_all}
use Rattle.serde_json.specs.View.{view}
use Rattle.oci_profile.specs.Conditions.{AreNumbers}
use Rattle.oci_profile.specs.Profile.{number_named}
use Rattle.oci_profile.proofs.Fits.{numbers_fit}
use Rattle.oci_profile.proofs.reader.numbers.Goals as goal

pub new-requires : goal.new-requires
new-requires c =
    let all : c.loop-name.numbers.items ≡ filter_map (number_named c.args.calls) (map view c.args.names.now) =
    rw (
      drop_all c.loop-name.name-index c.args.names.now (omega arith),
      append-nil,
    ) at c.loop-name.invariant in
    subst AreNumbers (sym all) (numbers_fit c.args.calls (c.names_and_numbers_agree.ensures.in_table c.args.calls)
    (map view c.args.names.now))
