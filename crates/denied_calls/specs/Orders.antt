-- The order in which denied calls are printed, this project's own: docs/SEMANTICS.md, "Programs".
use Rattle.std.specs.Prelude.{ℕ, List, string_bytes}
use Rattle.std.specs.Cmp.Lexicographic.{slice_cmp}
use Rattle.std.specs.declared.cmp.Ordering.{Ordering}
use Rattle.std.specs.Ordering.{nat_cmp, ordering_then}
use Rattle.denied_calls.specs.declared.adding.Row.{Row}
use Rattle.denied_calls.specs.declared.sighting.Sighting.{Sighting}
use Rattle.denied_calls.specs.declared.totalling.Total.{Total}

-- by bytes
abbrev pub text_order : List ℕ → List ℕ → Ordering
text_order a b = slice_cmp nat_cmp a b

-- by pod, container, call and verdict, and then by time
abbrev pub sighting_order : Sighting → Sighting → Ordering
sighting_order a b =
    ordering_then (text_order (string_bytes a.uid) (string_bytes b.uid))
    (ordering_then (text_order (string_bytes a.name) (string_bytes b.name))
    (ordering_then (nat_cmp a.nr b.nr) (ordering_then (nat_cmp a.arch b.arch)
    (ordering_then (nat_cmp a.value b.value) (ordering_then (nat_cmp a.attempt b.attempt)
    (ordering_then (nat_cmp a.first b.first) (ordering_then (nat_cmp a.count b.count)
    (text_order (string_bytes a.profile) (string_bytes b.profile)))))))))

-- the greatest count first
abbrev pub row_order : Row → Row → Ordering
row_order a b = ordering_then (nat_cmp b.count.0 a.count.0) (nat_cmp a.place b.place)

-- the greatest count first, and then by call and verdict
abbrev pub total_order : Total → Total → Ordering
total_order a b =
    ordering_then (nat_cmp b.count.0 a.count.0) (ordering_then (nat_cmp a.nr b.nr)
    (ordering_then (nat_cmp a.arch b.arch) (ordering_then (nat_cmp a.value b.value)
    (nat_cmp a.containers b.containers))))
