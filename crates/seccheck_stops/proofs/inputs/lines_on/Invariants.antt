-- The lines so far, followed by those of the texts from here on, are all of them.
use Rattle.std.proofs.Common.{◌≡◌, ◌++◌, drop, map}
use Rattle.std.specs.Prelude.{flat_map, string_bytes}
use Rattle.seccheck_stops.specs.Inputs.{manifest_line}
use Rattle.seccheck_stops.proofs.inputs.lines_on.Given as goal

abbrev pub invariant-loop-text : goal.invariant-loop-text
invariant-loop-text l = string_bytes l.lines
    ++ flat_map (manifest_line l.path) (map string_bytes (drop l.text-index l.texts))
    ≡ flat_map (manifest_line l.path) (map string_bytes l.texts)
