-- The text of a format hole of eight hexadecimal digits.
use Rattle.std.proofs.Common.{◌≡◌, ℕ, ◌-◌, ◌^◌, List, [], ◌++◌, length, replicate, false, ap, ◌∙◌, arith}
use Rattle.std.specs.Fmt.{char_count, format_spec, padded_integral}
use Rattle.std.proofs.lemmas.List.{append-nil}

pub padded_to_eight : (numeral : List ℕ)
    → padded_integral (format_spec 32 0 4 8 (2 ^ 64 - 1)) false [] numeral ≡ replicate (8 - length numeral) 48
    ++ numeral
unfolding padded_integral char_count
padded_to_eight numeral =
    ap (λ (n : ℕ). replicate n 48 ++ (numeral ++ [])) (omega arith)
    ∙ ap (λ (t : List ℕ). replicate (8 - length numeral) 48 ++ t) (append-nil numeral)
