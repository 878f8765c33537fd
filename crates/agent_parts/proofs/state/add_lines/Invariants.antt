-- The lines of the uids so far.
use Rattle.std.proofs.Common.{◌≡◌, ◌++◌, drop}
use Rattle.std.specs.String.{string_bytes}
use Rattle.agent_parts.specs.State.{lines_of}
use Rattle.agent_parts.proofs.state.add_lines.Given as goal

abbrev pub invariant-loop-uid : goal.invariant-loop-uid
invariant-loop-uid l = string_bytes l.text ++ lines_of (drop l.uid-index l.uids)
    ≡ string_bytes l.initial.text ++ lines_of l.uids
