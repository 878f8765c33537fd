-- Whether each name is that of a known call, and the first that is not.
use Rattle.std.proofs.Common.{◌≡◌, ℕ, suc, ◌+◌, ◌≤◌, ◌&&◌, List, [], ◌∷◌, not, length, cond, ltb, Bool, true}
use Rattle.std.proofs.Common.{false, Ok, Option, Some, None, refl, arith}
use Rattle.std.specs.Prelude.{is_some, position}
use Rattle.std.specs.Bool.{⊤}
use Rattle.std.specs.List.{prefix_len}
use Rattle.std.proofs.lemmas.Bool.{le-ltb, ltb-false}
use Rattle.serde_json.specs.Data.{Data}
use Rattle.sys_table.specs.declared.calls.CallTable.{CallTable}
use Rattle.oci_profile.specs.Profile.{are_known, number_named}
use Rattle.oci_profile.specs.Reading.{known_if, refuse_at}

module _ (calls : CallTable) where
  -- how many names come before the first that is not known
  abbrev front : List Data → ℕ
  front names = prefix_len (λ name. not (not (is_some (number_named calls name)))) names

  front_all : (names : List Data) → are_known calls names ≡ true → front names ≡ length names
  front_all [] h = refl
  front_all (name ∷ names) h =
      elim (is_some (number_named calls name)) as (λ b. (b && (are_known calls) names) ≡ true
      → cond (not (not b)) (1 + front names) 0 ≡ suc (length names)) [
        | true ↦ λ rest. omega (arith, front_all names rest)
        | false ↦ λ rest. absurd cc
      ] h

  all_front : (names : List Data) → length names ≤ front names → are_known calls names ≡ true
  all_front [] h = refl
  all_front (name ∷ names) h =
      elim (is_some (number_named calls name)) as (λ b. suc (length names) ≤ cond (not (not b)) (1 + front names) 0
      → (b && (are_known calls) names) ≡ true) [
        | true ↦ λ rest. all_front names (omega (arith, rest))
        | false ↦ λ rest. absurd (omega (arith, rest))
      ] h

  refused_at : (index : Option ℕ) (u : ⊤) → refuse_at index ≡ Ok u → index ≡ None
  refused_at None u h = refl
  refused_at (Some index) u h = absurd cc

  nowhere : (test : Bool) (n : ℕ) → cond test (Some n) None ≡ None → test ≡ false
  nowhere true n h = absurd cc
  nowhere false n h = refl

  pub known_when_needed : (needed : Bool) (names : List Data) (u : ⊤) → known_if calls needed names ≡ Ok u
      → needed ≡ true → are_known calls names ≡ true
  known_when_needed true names u h is = all_front names
      (ltb-false (front names) (length names)
      (nowhere (ltb (front names) (length names)) (front names)
      (refused_at (position (λ name. not (is_some (number_named calls name))) names) u h)))
  known_when_needed false names u h is = absurd cc

  pub goes_on_where_known : (needed : Bool) (names : List Data) → (needed ≡ true → are_known calls names ≡ true)
      → known_if calls needed names ≡ Ok tt
  goes_on_where_known true names known = rw (
    front_all names (known refl),
    le-ltb (length names) (length names) (omega arith),
  ) refl
  goes_on_where_known false names known = refl
