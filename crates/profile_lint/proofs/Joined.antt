-- A text that was written in four parts.
use Rattle.std.proofs.Common.{◌≡◌, ◌++◌, ◌∙◌, ℕ, List, [], ap, append_assoc}

pub joined : (start one two three four a b c d : List ℕ) → start ≡ [] → one ≡ start ++ a → two ≡ one ++ b
    → three ≡ two ++ c → four ≡ three ++ d → four ≡ a ++ (b ++ (c ++ d))
joined start one two three four a b c d empty first second third fourth =
    let begun : one ≡ a = first ∙ ap (λ t. t ++ a) empty in
    let more : two ≡ a ++ b = second ∙ ap (λ t. t ++ b) begun in
    let most : three ≡ (a ++ b) ++ c = third ∙ ap (λ t. t ++ c) more in
    fourth ∙ (ap (λ t. t ++ d) most ∙ (append_assoc (a ++ b) c d ∙ append_assoc a b (c ++ d)))
