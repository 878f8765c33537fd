-- Why the file of the node's own filter is refused: this project's own, docs/SEMANTICS.md, "Programs".
use Rattle.std.specs.Prelude.{◌≡◌, ℕ, List}
use Rattle.bpf_verify.specs.Refused.{IsRefused}
use Rattle.runtime_stops.specs.declared.stops.ServerStop.{ServerStop}
use Rattle.runtime_stops.specs.declared.stops.ServerStop.TheVariants.{Baseline, Memory}
use Rattle.wrong_files.specs.Hints.{IsHint, filter_hints}

-- these bytes at this path are refused for a fault of theirs, with the hint on them, or memory ran out
abbrev pub IsOfBaseline : List ℕ → List ℕ → ServerStop → Type 0
IsOfBaseline path bytes (Baseline word refusal hint) = (word.now ≡ path) × IsRefused bytes refusal
    × IsHint bytes filter_hints hint
IsOfBaseline path bytes stop = stop ≡ Memory
