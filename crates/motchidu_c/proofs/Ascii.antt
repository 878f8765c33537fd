-- The names of calls are ASCII, so bytes that are not UTF-8 are none of them.
use Rattle.std.proofs.Common.{◌≡◌, ℕ, zero, suc, ◌&&◌, List, [], ◌∷◌, Bool, true, false, Some, arith, refl}
use Rattle.std.proofs.Common.{cond, slice_index_or}
use Rattle.std.specs.Prelude.{nat_lt}
use Rattle.std.specs.List.{list_all}
use Rattle.std.specs.Str.{IsAscii, IsUtf8}
use Rattle.std.proofs.lemmas.Bool.{ltb-true}
use Rattle.std.proofs.lemmas.Str.{IsUtf8-from_ascii}
use Rattle.sys_table.specs.SysTable.{is_of, name_in, named, names}
use Rattle.sys_table.specs.declared.calls.CallTable.{CallTable}

are_ascii : List ℕ → Bool
are_ascii bytes = list_all (λ c. nat_lt c 128) bytes

both : (a b : Bool) → (a && b) ≡ true → (a ≡ true) × (b ≡ true)
both true true e = (refl, refl)
both true false e = absurd cc
both false b e = absurd cc

ascii_at : (bytes : List ℕ) → are_ascii bytes ≡ true → IsAscii bytes
unfolding are_ascii
ascii_at [] e i = omega arith
ascii_at (c ∷ cs) e zero = ltb-true c 128 (both _ _ e).0
ascii_at (c ∷ cs) e (suc i) = ascii_at cs (both _ _ e).1 i

each_at : (table : List (List ℕ)) → list_all are_ascii table ≡ true → (n : ℕ)
    → are_ascii (slice_index_or table n []) ≡ true
unfolding are_ascii
each_at [] e n = refl
each_at (text ∷ texts) e zero = (both _ _ e).0
each_at (text ∷ texts) e (suc n) = each_at texts (both _ _ e).1 n

each : list_all are_ascii names ≡ true
unfolding names are_ascii
each = refl

is_text : (text name : List ℕ) → are_ascii text ≡ true → named text ≡ Some name → IsUtf8 name
is_text [] name ascii e = absurd cc
is_text (c ∷ cs) name ascii e =
    let same : name ≡ c ∷ cs = cc in
    rw same (IsUtf8-from_ascii (c ∷ cs) (ascii_at (c ∷ cs) ascii))

-- the name of a call is UTF-8
pub name_is_text : (calls : CallTable) (number : ℕ) (name : List ℕ) → name_in calls number ≡ Some name
    → IsUtf8 name
unfolding name_in
name_is_text calls number name e =
    elim (is_of calls number) as (λ b. named (cond b (slice_index_or names number []) []) ≡ Some name
    → IsUtf8 name) [
      | true ↦ λ there. is_text (slice_index_or names number []) name (each_at names each number) there
      | false ↦ λ none. absurd cc
    ] e
