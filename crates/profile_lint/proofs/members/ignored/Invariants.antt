-- The findings so far, followed by those about the members from here on, are all of them.
use Rattle.std.proofs.Common.{◌≡◌, ◌++◌, map}
use Rattle.std.specs.Prelude.{filter_map}
use Rattle.serde_json.specs.View.{members_view}
use Rattle.profile_lint.specs.Passed.{ignored_at, members_list, told}
use Rattle.profile_lint.proofs.members.ignored.Given as goal

abbrev pub invariant-loop-key : goal.invariant-loop-key
invariant-loop-key l = map told l.found.items
    ++ filter_map (ignored_at l.holder) (members_list (members_view l.key-iterator))
    ≡ filter_map (ignored_at l.holder) (members_list (members_view l.members.entries))
