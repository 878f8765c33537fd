-- Every stream of bytes has a list of frames and a rest; and what a bad head is, number by number.
use Rattle.std.proofs.Common.{◌≡◌, ◌≢◌, ◌↔◌, ℕ, zero, suc, ◌+◌, ◌*◌, ◌/◌, ◌%◌, ◌<◌, ◌≤◌, ◌⊎◌, List, [], ◌∷◌}
use Rattle.std.proofs.Common.{◌++◌, length, take, drop, get_or, refl, sym, ap, ◌∙◌, subst, inl, inr, arith}
use Rattle.std.proofs.Common.{append_assoc, length-append, take-append-drop}
use Rattle.std.proofs.lemmas.Bool.{cases_eq, cases_lt}
use Rattle.std.proofs.lemmas.List.{length-take-le, get_or-append-add}
use Rattle.std.specs.List.{flat_map}
use Rattle.cri_msgs.specs.declared.version.Version.{Version}
use Rattle.cri_msgs.specs.declared.version.Version.TheVariants.{V1, V2}
use Rattle.cri_frames.specs.Frames.{BeginsNone, IsBad, IsLength, first_byte, frame_of, head_of}
use Rattle.cri_frames.specs.Streams.{Frame, Splits, bytes_of}

-- the number in three bytes, the highest first
abbrev number : ℕ → ℕ → ℕ → ℕ
number high middle low = 65536 * high + 256 * middle + low

-- a length's three bytes
bytes_of_number : (n high middle low : ℕ) → n ≡ number high middle low → high < 256 → middle < 256 → low < 256
    → (n / 65536 % 256 ≡ high) × (n / 256 % 256 ≡ middle) × (n % 256 ≡ low)
bytes_of_number n high middle low is h m l = (omega arith, omega arith, omega arith)

number_of_bytes : (n high middle low : ℕ) → IsLength n → n / 65536 % 256 ≡ high → n / 256 % 256 ≡ middle
    → n % 256 ≡ low → n ≡ number high middle low
number_of_bytes n high middle low fit h m l = omega arith

is_length : (n : ℕ) → IsLength n ⊎ (IsLength n → ⊥)
is_length n = elim (cases_lt 0 n) [
  | inl some ↦ elim (cases_lt 1048576 n)
      [ inl long ↦ inr (λ fit. omega arith) | inr short ↦ inl (some, short) ]
  | inr none ↦ inr
      (λ fit. omega arith)
]

version_of : (first : ℕ) → ((version : Version) × (first_byte version ≡ first)) ⊎ ((version : Version)
    → first_byte version ≢ first)
version_of first =
    elim (cases_eq first 0) [
      | inl is_zero ↦ inl (V1, sym is_zero)
      | inr not_zero ↦ elim (cases_eq first 2) [
        | inl is_two ↦ inl (V2, sym is_two)
        | inr not_two ↦ inr (λ version. elim version as (λ v. first_byte v ≢ first)
            [ V1 ↦ (λ e. not_zero (sym e)) | V2 ↦ (λ e. not_two (sym e)) ])
      ]
    ]

-- a whole frame at the front, or none
record Front (bytes : List ℕ) : Type 0 where
  version : Version
  text : List ℕ
  more : List ℕ
  fit : IsLength (length text)
  whole : bytes ≡ frame_of version text ++ more

short : (bytes : List ℕ) → length bytes < 4 → BeginsNone bytes
short bytes few = record {
  none = λ version text more fit same. let same_length = ap length same in
      omega (arith, same_length);
}

-- four bytes that spell a head
head_is : (version : Version) (first high middle low : ℕ) → first_byte version ≡ first → high < 256
    → middle < 256 → low < 256 → first ∷ high ∷ middle ∷ low ∷ [] ≡ head_of version (number high middle low)
head_is version first high middle low is h m l =
    let spelled = bytes_of_number (number high middle low) high middle low refl h m l in
    let one : number high middle low / 65536 % 256 ≡ high = spelled.0 in
    let two : number high middle low / 256 % 256 ≡ middle = spelled.1 in
    let three : number high middle low % 256 ≡ low = spelled.2 in
    cc

first_is : (version : Version) (first : ℕ) → first_byte version ≡ first → (first ≡ 0) ⊎ (first ≡ 2)
first_is V1 first is = inl (sym is)
first_is V2 first is = inr (sym is)

whole_front : (version : Version) (a b c d : ℕ) (rest : List ℕ) → first_byte version ≡ a → b < 256 → c < 256
    → d < 256 → IsLength (number b c d) → number b c d ≤ length rest → Front (a ∷ b ∷ c ∷ d ∷ rest)
whole_front version a b c d rest is h m l fit enough =
    let n : ℕ = number b c d in
    let text : List ℕ = take n rest in
    let count : length text ≡ n = length-take-le n rest enough in
    let head = head_is version a b c d is h m l in
    record {
      version = version;
      text = text;
      more = drop n rest;
      fit = subst IsLength (sym count) fit;
      whole = ap (λ front. front ++ rest) head ∙ ap (λ k. head_of version k ++ rest) (sym count)
          ∙ ap (λ back. head_of version (length text) ++ back) (sym (take-append-drop n rest));
    }

fewer : (fuel : ℕ) (stream : List ℕ) → length stream < suc fuel → (f : Front stream) → length f.more < fuel
fewer fuel stream enough f =
    let same : length stream ≡ length (frame_of f.version f.text ++ f.more) = ap length f.whole in
    omega (arith, length-append f.text f.more)

more_fits : (stream : List ℕ) → ((at : ℕ) → get_or stream at 0 < 256) → (f : Front stream) → (at : ℕ)
    → get_or f.more at 0 < 256
more_fits stream fits f at =
    let same : get_or stream (length (frame_of f.version f.text) + at) 0 ≡ get_or f.more at 0 =
    ap (λ bytes. get_or bytes (length (frame_of f.version f.text) + at) 0) f.whole
    ∙ get_or-append-add (frame_of f.version f.text) f.more at 0 in
    let fit = fits (length (frame_of f.version f.text) + at) in
    omega (arith, same, fit)

more_split : (fuel : ℕ) (stream : List ℕ) → length stream < suc fuel → ((at : ℕ) → get_or stream at 0 < 256)
    → (f : Front stream) → (frames : List Frame) × (rest : List ℕ) × Splits f.more frames rest
    → (frames : List Frame) × (rest : List ℕ) × Splits stream frames rest
more_split fuel stream enough fits f next = (
  (f.version, f.text) ∷ next.0,
  next.1,
  record {
    whole = f.whole ∙ ap (λ more. frame_of f.version f.text ++ more) next.2.whole
        ∙ sym (append_assoc (frame_of f.version f.text) (flat_map bytes_of next.0) next.1);
    each = (f.fit, next.2.each);
    begins_none = next.2.begins_none;
  },
)

front : (bytes : List ℕ) → ((at : ℕ) → get_or bytes at 0 < 256) → Front bytes ⊎ BeginsNone bytes
front [] fits = inr (short [] (omega arith))
front (a ∷ []) fits = inr (short (a ∷ []) (omega arith))
front (a ∷ b ∷ []) fits = inr (short (a ∷ b ∷ []) (omega arith))
front (a ∷ b ∷ c ∷ []) fits = inr (short (a ∷ b ∷ c ∷ []) (omega arith))
front (a ∷ b ∷ c ∷ d ∷ rest) fits =
    let n : ℕ = number b c d in
    elim (version_of a) [
      | inr unknown ↦ inr (record { none = λ version text more fit same. unknown version (cc) })
      | inl v ↦ elim (is_length n) [
        | inr not ↦ inr (record {
          none = λ version text more fit same.
              not (subst IsLength (number_of_bytes (length text) b c d fit (cc) (cc) (cc)) fit);
        })
        | inl fit ↦ elim (cases_lt (length rest) n) [
          | inl few ↦ inr (record {
            none = λ version text more fit' same.
                let count : length text ≡ n = number_of_bytes (length text) b c d fit' (cc) (cc) (cc) in
                let behind : rest ≡ text ++ more = cc in
                let longer : length rest ≡ length (text ++ more) = ap length behind in
                omega (arith, length-append text more);
          })
          | inr enough ↦ inl (whole_front v.0 a b c d rest v.1 (fits 1) (fits 2) (fits 3) fit enough)
        ]
      ]
    ]

pub some_split : (fuel : ℕ) (stream : List ℕ) → length stream < fuel → ((at : ℕ) → get_or stream at 0 < 256)
    → (frames : List Frame) × (rest : List ℕ) × Splits stream frames rest
some_split zero stream enough fits = absurd (omega arith)
some_split (suc fuel) stream enough fits =
    elim (front stream fits) [
      | inr none ↦ ([], stream, record { whole = refl; each = tt; begins_none = none })
      | inl f ↦ more_split fuel stream enough fits f
          (some_split fuel f.more (fewer fuel stream enough f) (more_fits stream fits f))
    ]

-- by its first byte, and by the number in the other three
pub bad_head : (first high middle low : ℕ) (more : List ℕ) → high < 256 → middle < 256 → low < 256
    → IsBad (first ∷ high ∷ middle ∷ low ∷ more) ↔ (((first ≡ 0) ⊎ (first ≡ 2))
    × IsLength (65536 * high + 256 * middle + low) → ⊥)
bad_head first high middle low more h m l = (
  λ bad good. elim good.0 [
    | inl is_zero ↦ bad.no_head V1 (number high middle low) good.1
        (head_is V1 first high middle low (sym is_zero) h m l)
    | inr is_two ↦ bad.no_head V2 (number high middle low) good.1
        (head_is V2 first high middle low (sym is_two) h m l)
  ],
  λ not. record {
    there = omega arith;
    no_head = λ version count fit same. not (
      first_is version first (cc),
      subst IsLength (number_of_bytes count high middle low fit (cc) (cc) (cc)) fit,
    );
  },
)
