-- One more line of a text that has one for each item.
use Rattle.std.proofs.Common.{◌≡◌, ℕ, ◌+◌, ◌<◌, List, [], ◌∷◌, ◌++◌, length, take, get_or, sym, ap, ◌∙◌}
use Rattle.std.proofs.Common.{arith, add-one, append_assoc, codes}
use Rattle.std.proofs.Math.Seq.{take-suc}
use Rattle.std.proofs.lemmas.List.{append-nil, length-take-le}
use Rattle.seccheck_output.specs.Texts.{lines_text}

-- a line with its end
abbrev ended_line : {A : Type 0} → (ℕ → A → List ℕ) → ℕ → A → List ℕ
ended_line line place x = line place x ++ codes "\n"

lines_more : {A : Type 0} (line : ℕ → A → List ℕ) (start : ℕ) (xs : List A) (x : A) (place : ℕ)
    → place ≡ start + length xs
    → lines_text line start (xs ++ x ∷ []) ≡ lines_text line start xs ++ ended_line line place x
lines_more line start [] x place is = append-nil (ended_line line start x)
    ∙ ap (λ p. ended_line line p x) (sym (is ∙ omega arith))
lines_more line start (y ∷ xs) x place is =
    ap (λ rest. line start y ++ codes "\n" ++ rest)
    (lines_more line (start + 1) xs x place (is ∙ omega arith))
    ∙ sym (append_assoc (line start y ++ codes "\n") (lines_text line (start + 1) xs)
    (ended_line line place x))

pub one_more_line : {A : Type 0} (line : ℕ → A → List ℕ) (xs items : List A) (place : ℕ) (x : A)
    (text more : List ℕ) → items ≡ xs → place < length items
    → text ≡ lines_text line 0 (take place xs) → more ≡ text ++ ended_line line place (get_or items place x)
    → more ≡ lines_text line 0 (take (place + 1) xs)
one_more_line {A = A} line xs items place x text more same within so_far is =
    let last : A = get_or xs place x in
    let inside : place < length xs = omega (arith, within, ap length same) in
    let longer : take (place + 1) xs ≡ take place xs ++ last ∷ [] = ap (λ n. take n xs) (add-one place)
    ∙ take-suc xs place x inside in
    let at : place ≡ 0 + length (take place xs) =
    omega (arith, length-take-le place xs (omega (arith, inside))) in
    is ∙ ap (λ es. text ++ ended_line line place (get_or es place x)) same
    ∙ ap (λ t. t ++ ended_line line place last) so_far
    ∙ sym (ap (lines_text line 0) longer ∙ lines_more line 0 (take place xs) last place at)
