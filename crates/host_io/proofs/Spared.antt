-- What is kept after a name beside a path was used.
use Rattle.std.proofs.Common.{◌≡◌, ◌++◌, ℕ, List, Option, None, Some, codes, length, length-append}
use Rattle.std.proofs.Common.{arith, sym, ap, ◌<◌}
use Rattle.std.specs.Fmt.{decimal}
use Rattle.node_io.specs.Held.{Held}
use Rattle.host_io.specs.declared.whole_file.TheConstants.{NAMES}
use Rattle.host_io.specs.Places.{IsAt, IsFree, KeepsAll, KeepsAt, KeepsOthers, Moves, Spares, name_beside}

pub keeps_more : (a b c : Option Held) (path : List ℕ) → KeepsAt a b path → KeepsAt b c path
    → KeepsAt a c path
keeps_more a b c path first second value =
    (λ is. (second value).0 ((first value).0 is), λ is. (first value).1 ((second value).1 is))

-- a name beside a path is longer than the path
pub differs : (path : List ℕ) (n : ℕ) → path ≡ name_beside path n → ⊥
differs path n same =
    let longer = ap length same in
    let sum = length-append path (codes ".new" ++ decimal n) in
    let rest = length-append (codes ".new") (decimal n) in
    omega (arith, longer, sum, rest)

pub differs_free : {path name : List ℕ} {old : Option Held} → IsFree path name old → path ≡ name → ⊥
differs_free {path} {name} {old} free same = differs path free.number (cc (free.beside, same))

pub spares_all : {path : List ℕ} {old new : Option Held} → KeepsAll old new → Spares path old new
spares_all {path} {old} {new} kept = record { used = None; free = tt; others = λ other _ _. kept other }

pub others_more : (name : List ℕ) (a b c : Option Held) → KeepsOthers name a b → KeepsOthers name b c
    → KeepsOthers name a c
others_more name a b c first second other differs =
    keeps_more a b c other (first other differs) (second other differs)

pub spares_others : (path name : List ℕ) (old new : Option Held) → IsFree path name old
    → KeepsOthers name old new → Spares path old new
spares_others path name old new free others = record {
  used = Some name;
  free = free;
  others = λ other _ unused. others other (λ same. unused (ap Some (sym same)));
}

pub spares_moved : (path name : List ℕ) (a b c : Option Held) → IsFree path name a → KeepsOthers name a b
    → Moves name path b c → Spares path a c
spares_moved path name a b c free others moves = record {
  used = Some name;
  free = free;
  others = λ other outside unused. let differs : other ≡ name → ⊥ = λ same. unused (ap Some (sym same)) in
      keeps_more a b c other (others other differs) (moves.others other differs outside);
}

pub free_before : (path name : List ℕ) (a b : Option Held) (n : ℕ) → KeepsAll a b → IsAt b name None
    → name ≡ name_beside path n → n < NAMES → IsFree path name a
free_before path name a b n kept free beside below =
    record { number = n; below = below; beside = beside; free = (kept name None).1 free }
