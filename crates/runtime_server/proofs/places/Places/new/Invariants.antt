-- One place for each pass so far, all free.
use Rattle.std.proofs.Common.{◌≡◌, ◌≤◌, None, vec_len}
use Rattle.std.specs.List.{AllByRecursion}
use Rattle.runtime_server.proofs.places.Places.new.Given as goal

abbrev pub invariant-loop : goal.invariant-loop
invariant-loop g l = (vec_len l.list ≡ l.counter) × (l.counter ≤ l.count)
    × AllByRecursion (λ place. place ≡ None) l.list.items
