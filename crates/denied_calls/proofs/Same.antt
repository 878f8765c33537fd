-- What is the same as the same is the same.
use Rattle.std.proofs.Common.{◌≡◌, true, List, ℕ, sym, subst, arith, string_bytes}
use Rattle.std.specs.Str.{bytes_eq}
use Rattle.std.proofs.lemmas.Grind.{common_steps}
use Rattle.std.proofs.lemmas.Slice.Eq.{bytes_eq-Decides}
use Rattle.denied_calls.specs.declared.sighting.Sighting.{Sighting}
use Rattle.denied_calls.specs.Sightings.{same_call, same_kind}

bytes_again : (a b c : List ℕ) → bytes_eq b c ≡ true → bytes_eq a b ≡ true → bytes_eq a c ≡ true
bytes_again a b c second first = subst (λ x. bytes_eq x c ≡ true) (sym ((bytes_eq-Decides a b).0 first)) second

pub call_again : (a b c : Sighting) → same_call b c ≡ true → same_call a b ≡ true → same_call a c ≡ true
call_again a b c second first =
    grind (
      arith,
      common_steps,
      bytes_again (string_bytes a.uid) (string_bytes b.uid) (string_bytes c.uid),
      bytes_again (string_bytes a.name) (string_bytes b.name) (string_bytes c.name),
    )

pub kind_again : (a b c : Sighting) → same_kind b c ≡ true → same_kind a b ≡ true → same_kind a c ≡ true
kind_again a b c second first = grind (arith, common_steps)
