-- What was added, followed by the entries of this kind from here on, is all of them.
use Rattle.std.proofs.Common.{◌≡◌, ◌++◌, ◌&&◌, drop}
use Rattle.std.specs.Prelude.{filter}
use Rattle.profile_lint.specs.Engines.{is_kept, is_of}
use Rattle.profile_lint.proofs.engines.add_kept.Given as goal

abbrev pub invariant-loop-entry : goal.invariant-loop-entry
invariant-loop-entry l = l.list.items
    ++ filter (λ entry. is_kept l.profile entry && is_of l.kind entry) (drop l.entry-index l.entries)
    ≡ l.initial.list.items ++ filter (λ entry. is_kept l.profile entry && is_of l.kind entry) l.entries
