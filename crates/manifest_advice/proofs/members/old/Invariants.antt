-- The advice so far, followed by that on the annotations from here on, is all of it.
use Rattle.std.proofs.Common.{◌≡◌, ◌++◌, map}
use Rattle.std.specs.Prelude.{filter_map}
use Rattle.serde_json.specs.View.{members_view}
use Rattle.manifest_advice.specs.Advice.{members_list, old_at, told}
use Rattle.manifest_advice.proofs.members.old.Given as goal

abbrev pub invariant-loop-key : goal.invariant-loop-key
invariant-loop-key l = map told l.found.items
    ++ filter_map old_at (members_list (members_view l.key-iterator))
    ≡ filter_map old_at (members_list (members_view l.members.entries))
