-- No byte of a text in a page is markup.
use Rattle.std.proofs.Common.{◌≡◌, ℕ, zero, suc, ◌+◌, ◌-◌, ◌<◌, ◌≤◌, Bool, true, false, not, ◌&&◌, ◌==◌, nat_le}
use Rattle.std.proofs.Common.{List, [], ◌∷◌, ◌++◌, length, get_or, encode_utf8, chars, refl, ◌∙◌, arith}
use Rattle.std.proofs.Common.{append-nil, sym, subst, inl, inr, codes}
use Rattle.std.specs.Prelude.{if◌then◌else◌}
use Rattle.std.specs.Char.{is_control, len_utf8}
use Rattle.std.specs.Fmt.{digits}
use Rattle.std.specs.List.{list_any}
use Rattle.std.proofs.lemmas.Bool.{and_parts, and_right, cases_eq, cases_lt, le-ltb, lt-leb, ne_eqb, not-true, or_from}
use Rattle.std.proofs.lemmas.List.Folds.{list_any-append}
use Rattle.std.proofs.lemmas.Str.{encode_ascii, inside_one}
use Rattle.json_place.specs.Quoted.{escaped}
use Rattle.profile_report.specs.Escaped.{html_char, html_fitting, html_text, is_markup}

-- the texts of the numbers below n have no markup
abbrev are_plain : (ℕ → List ℕ) → ℕ → Bool
are_plain text zero = true
are_plain text (suc n) = not (list_any is_markup (text n)) && are_plain text n

plain_at : (text : ℕ → List ℕ) (n : ℕ) → are_plain text n ≡ true → (c : ℕ) → c < n
    → list_any is_markup (text c) ≡ false
plain_at text zero e c h = absurd (omega arith)
plain_at text (suc n) e c h =
    let p = and_parts _ _ e in
    elim (cases_eq c n) [
      | inl same ↦ rw same (not-true _ p.0)
      | inr other ↦ plain_at text n p.1 c (omega arith)
    ]

-- a character of ASCII: its encoding is itself
abbrev ascii_text : ℕ → List ℕ
ascii_text c =
    if c == 0x26 then codes "&amp;"
    else if c == 0x3c then codes "&lt;"
    else if c == 0x3e then codes "&gt;"
    else if c == 0x22 then codes "&quot;"
    else if c == 0x27 then codes "&#39;"
    else if is_control c then escaped c
    else c ∷ []

ascii_plain : are_plain ascii_text 128 ≡ true
unfolding digits
ascii_plain = refl

is_ascii_text : (c : ℕ) → c < 128 → html_char c ≡ ascii_text c
unfolding html_char
is_ascii_text c small = rw (encode_ascii c small) refl

-- the control characters after ASCII
control_plain : are_plain (λ n. html_char (128 + n)) 32 ≡ true
unfolding html_char digits
control_plain = refl

-- a byte from 128 on is no markup
high_byte : (b : ℕ) → 128 ≤ b → is_markup b ≡ false
high_byte b big =
    or_from _ _ (ne_eqb b 0x3c (λ e. omega arith))
    (or_from _ _ (ne_eqb b 0x3e (λ e. omega arith))
    (or_from _ _ (ne_eqb b 0x22 (λ e. omega arith))
    (or_from _ _ (ne_eqb b 0x27 (λ e. omega arith))
    (or_from _ _ (le-ltb b 0x20 (omega arith)) (ne_eqb b 0x7f (λ e. omega arith))))))

high_bytes : (xs : List ℕ) → ((k : ℕ) → k < length xs → 128 ≤ get_or xs k 0) → list_any is_markup xs ≡ false
high_bytes [] h = refl
high_bytes (x ∷ xs) h =
    or_from _ _ (high_byte x (h 0 (omega arith))) (high_bytes xs (λ k below. h (suc k) (omega arith)))

encoded : (c : ℕ) → 128 ≤ c → list_any is_markup (encode_utf8 c) ≡ false
encoded c big = high_bytes (encode_utf8 c) (λ k below. elim (cases_lt (get_or (encode_utf8 c) k 0) 128) [
  | inl small ↦ absurd (omega (arith, inside_one c [] (encode_utf8 c) k (sym (append-nil _)) below small))
  | inr h ↦ h
])

-- any other character is written as it is
as_it_is : (c : ℕ) → 160 ≤ c → html_char c ≡ encode_utf8 c
unfolding html_char
as_it_is c big = rw (
  ne_eqb c 0x26 (λ e. omega arith),
  ne_eqb c 0x3c (λ e. omega arith),
  ne_eqb c 0x3e (λ e. omega arith),
  ne_eqb c 0x22 (λ e. omega arith),
  ne_eqb c 0x27 (λ e. omega arith),
  lt-leb c 0x1f (omega arith),
  lt-leb c 0x9f (omega arith),
  and_right (nat_le 0 c) false refl,
  and_right (nat_le 0x7f c) false refl,
) refl

above : (c : ℕ) → 128 ≤ c → list_any is_markup (html_char c) ≡ false
above c big = elim (cases_lt c 160) [
  | inl small ↦
      let at : 128 + (c - 128) ≡ c = omega arith in
      subst (λ n. list_any is_markup (html_char n) ≡ false) at
      (plain_at (λ n. html_char (128 + n)) 32 control_plain (c - 128) (omega arith))
  | inr other ↦ subst (λ text. list_any is_markup text ≡ false) (sym (as_it_is c other)) (encoded c big)
]

one_char : (c : ℕ) → list_any is_markup (html_char c) ≡ false
one_char c = elim (cases_lt c 128) [
  | inl small ↦ subst (λ text. list_any is_markup text ≡ false) (sym (is_ascii_text c small))
      (plain_at ascii_text 128 ascii_plain c small)
  | inr big ↦ above c big
]

fits_or_not : (fits : Bool) (shown rest cut : List ℕ) → list_any is_markup shown ≡ false
    → list_any is_markup rest ≡ false → list_any is_markup cut ≡ false
    → list_any is_markup (if fits then shown ++ rest else cut) ≡ false
fits_or_not true shown rest cut first others end =
    list_any-append is_markup shown rest ∙ or_from _ _ first others
fits_or_not false shown rest cut first others end = end

no_markup : (room : ℕ) (text : List ℕ) → list_any is_markup (html_fitting room text) ≡ false
no_markup room [] = refl
no_markup room (c ∷ text) = fits_or_not (nat_le (len_utf8 c) room) (html_char c)
    (html_fitting (room - len_utf8 c) text) (codes "..") (one_char c) (no_markup (room - len_utf8 c) text) refl

pub text_is_plain : (room : ℕ) (text : List ℕ) → list_any is_markup (html_text room text) ≡ false
text_is_plain room text = no_markup room (chars text)
