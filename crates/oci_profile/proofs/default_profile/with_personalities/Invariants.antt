-- The entries so far, followed by those of the other personalities, are all.
use Rattle.std.proofs.Common.{◌≡◌, ◌++◌, map, drop}
use Rattle.oci_profile.specs.RuntimeDefault.{personality_entry, personalities}
use Rattle.oci_profile.proofs.default_profile.with_personalities.Given as goal

abbrev pub invariant-loop-persona : goal.invariant-loop-persona
invariant-loop-persona l = l.entries.items ++ map personality_entry (drop l.persona-index l.persona-items)
    ≡ l.fn.entries.items ++ map personality_entry personalities
