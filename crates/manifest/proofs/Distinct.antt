-- Containers that have different names.
use Rattle.std.proofs.Common.{◌≡◌, ◌≢◌, ℕ, zero, suc, ◌<◌, List, [], ◌∷◌, ◌++◌, ◌||◌, length, length-append}
use Rattle.std.proofs.Common.{get_or, Bool, true, false, true≢false, refl, sym, ap, ◌∙◌, arith}
use Rattle.std.specs.Prelude.{AllPairs}
use Rattle.std.specs.List.{list_any}
use Rattle.std.specs.Str.{bytes_eq}
use Rattle.std.proofs.lemmas.List.Folds.{list_any_none}
use Rattle.std.proofs.lemmas.List.Quantifiers.{all_pairs_push}
use Rattle.std.proofs.lemmas.Slice.Eq.{bytes_eq-Decides}
use Rattle.std.proofs.Math.ListN.{get_or-append}
use Rattle.std.proofs.Math.Seq.{get_or-append_seam}
use Rattle.manifest.specs.declared.containers.Container.{Container}
use Rattle.manifest.specs.Reading.{is_taken}

abbrev pub AreApart : List Container → Type 0
AreApart containers = AllPairs (λ one other. one.name ≢ other.name) containers

pub none_apart : AreApart []
none_apart = λ i j d lt in_range. absurd (omega arith)

neither : (x y : Bool) → (x || y) ≡ false → (x ≡ false) × (y ≡ false)
neither true y h = absurd cc
neither false y h = (refl, h)

any_at : {X : Type 0} (p : X → Bool) (xs : List X) (k : ℕ) (d : X) → list_any p xs ≡ false → k < length xs
    → p (get_or xs k d) ≡ false
any_at p [] k d h lt = absurd (omega arith)
any_at p (x ∷ xs) zero d h lt = (neither _ _ h).0
any_at p (x ∷ xs) (suc k) d h lt = any_at p xs k d (neither _ _ h).1 (omega arith)

other_bytes : (xs ys : List ℕ) → bytes_eq xs ys ≡ false → xs ≢ ys
other_bytes xs ys h same = absurd (true≢false (sym ((bytes_eq-Decides xs ys).1 same) ∙ h))

other_test : (b : Bool) → b ≢ true → b ≡ false
other_test true h = absurd (h refl)
other_test false h = refl

unequal_bytes : (xs ys : List ℕ) → xs ≢ ys → bytes_eq xs ys ≡ false
unequal_bytes xs ys h = other_test (bytes_eq xs ys) (λ same. h ((bytes_eq-Decides xs ys).0 same))

pub apart_push : (done : List Container) (c : Container) → AreApart done → is_taken done c.name ≡ false
    → AreApart (done ++ c ∷ [])
unfolding is_taken
apart_push done c apart new =
    all_pairs_push (λ (one other : Container). one.name ≢ other.name) done c apart (λ k d lt.
    other_bytes _ _ (any_at (λ (x : Container). bytes_eq x.name c.name) done k d new lt))

-- a container after others has a new name
pub apart_at : (done : List Container) (c : Container) (rest : List Container) → AreApart (done ++ c ∷ rest)
    → is_taken done c.name ≡ false
unfolding is_taken
apart_at done c rest apart =
    let within : length done < length (done ++ c ∷ rest) = simp length-append (omega arith) in
    let seam : (d : Container) → get_or (done ++ c ∷ rest) (length done) d ≡ c =
    get_or-append_seam done c rest in
    list_any_none (λ (x : Container). bytes_eq x.name c.name) done (λ k d lt. unequal_bytes _ _ (λ same.
    apart k (length done) d lt within (ap (λ (x : Container). x.name) (get_or-append done (c ∷ rest) d k lt)
    ∙ same ∙ ap (λ (x : Container). x.name) (sym (seam d)))))
