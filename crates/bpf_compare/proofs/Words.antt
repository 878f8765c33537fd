-- A word of a call's data has 32 bits.
use Rattle.std.proofs.Common.{◌≡◌, ℕ, ◌+◌, ◌-◌, ◌*◌, ◌/◌, ◌%◌, ◌^◌, ◌<◌, inl, inr, length, slice_index, subst}
use Rattle.std.proofs.Common.{List, [], ◌∷◌, refl, sym, ap, ◌∙◌, arith}
use Rattle.std.proofs.lemmas.Bool.{cases_eq}
use Rattle.call_data.specs.declared.sys_call.SysCall.{SysCall}
use Rattle.call_data.specs.CallData.{IsCall, word_at}
use Rattle.bpf_compare.specs.Known.{number_at}

-- where the fields are among the words
pub record Fields (call : SysCall) : Type 0 where
  pub nr : call.nr < 2 ^ 32 → word_at call 0 ≡ call.nr
  pub arch : call.arch < 2 ^ 32 → word_at call 4 ≡ call.arch
  pub ip_low : word_at call 8 ≡ call.ip % 2 ^ 32
  pub ip_high : call.ip < 2 ^ 64 → word_at call 12 ≡ call.ip / 2 ^ 32
  pub args_low : (i : ℕ) → i < length call.args → word_at call (16 + 8 * i) ≡ slice_index call.args i % 2 ^ 32
  pub args_high : (i : ℕ) → i < length call.args → slice_index call.args i < 2 ^ 64
      → word_at call (20 + 8 * i) ≡ slice_index call.args i / 2 ^ 32

low : (n whole : ℕ) → n ≡ whole % 2 ^ 32 → n < 2 ^ 32
low n whole is = omega arith

high : (n whole : ℕ) → whole < 2 ^ 64 → n ≡ whole / 2 ^ 32 → n < 2 ^ 32
high n whole fits is = omega arith

at : (call : SysCall) (offset other : ℕ) → other ≡ offset → word_at call offset < 2 ^ 32
    → word_at call other < 2 ^ 32
at call offset other same fits = let P : ℕ → Type 0 = λ o. word_at call o < 2 ^ 32 in subst P (sym same) fits

of_arg : (call : SysCall) (place i half : ℕ) → IsCall call → Fields call → i < 6 → half < 2
    → place ≡ 4 + 2 * i + half → word_at call (4 * place) < 2 ^ 32
of_arg call place i half is fields below two place_is = elim (cases_eq half 0) [
  | inl first ↦ at call (16 + 8 * i) (4 * place) (omega arith)
      (low _ _ (fields.args_low i (omega (arith, is.six))))
  | inr other ↦ at call (20 + 8 * i) (4 * place) (omega arith)
      (high _ _ (is.args i) (fields.args_high i (omega (arith, is.six)) (is.args i)))
]

pub word_fits : (call : SysCall) (place : ℕ) → IsCall call → Fields call → place < 16
    → word_at call (4 * place) < 2 ^ 32
word_fits call place is fields within = elim (cases_eq place 0) [
  | inl zeroth ↦ at call 0 (4 * place) (omega arith) (omega (arith, is.nr, fields.nr is.nr))
  | inr more ↦ elim (cases_eq place 1) [
    | inl first ↦ at call 4 (4 * place) (omega arith) (omega (arith, is.arch, fields.arch is.arch))
    | inr more_yet ↦ elim (cases_eq place 2) [
      | inl second ↦ at call 8 (4 * place) (omega arith) (low _ _ fields.ip_low)
      | inr and_more ↦ elim (cases_eq place 3) [
        | inl third ↦ at call 12 (4 * place) (omega arith) (high _ _ is.ip (fields.ip_high is.ip))
        | inr rest ↦ of_arg call place ((place - 4) / 2) (place % 2) is fields (omega arith) (omega arith)
            (omega arith)
      ]
    ]
  ]
]

-- the call whose fields are these
abbrev call_of : ℕ → ℕ → ℕ → List ℕ → SysCall
call_of nr arch ip args = record { nr = nr; arch = arch; ip = ip; args = args }

six : (items : List ℕ) → length items ≡ 6 → items ≡ slice_index items 0 ∷ slice_index items 1
    ∷ slice_index items 2 ∷ slice_index items 3 ∷ slice_index items 4 ∷ slice_index items 5 ∷ []
six [] is = absurd (omega arith)
six (a ∷ []) is = absurd (omega arith)
six (a ∷ b ∷ []) is = absurd (omega arith)
six (a ∷ b ∷ c ∷ []) is = absurd (omega arith)
six (a ∷ b ∷ c ∷ d ∷ []) is = absurd (omega arith)
six (a ∷ b ∷ c ∷ d ∷ e ∷ []) is = absurd (omega arith)
six (a ∷ b ∷ c ∷ d ∷ e ∷ f ∷ []) is = refl
six (a ∷ b ∷ c ∷ d ∷ e ∷ f ∷ g ∷ more) is = absurd (omega arith)

-- a number of 64 bits is made of its halves
abbrev whole : SysCall → ℕ → ℕ
whole call place = number_at call place + 2 ^ 32 * number_at call (place + 1)

halves : (low high full : ℕ) → low ≡ full % 2 ^ 32 → high ≡ full / 2 ^ 32 → full ≡ low + 2 ^ 32 * high
halves low high full low_is high_is = omega arith

-- a call is made of its words
pub call_of_words : (call : SysCall) (nr arch ip a b c d e f : ℕ) → IsCall call → Fields call
    → nr ≡ number_at call 0 → arch ≡ number_at call 1 → ip ≡ whole call 2 → a ≡ whole call 4
    → b ≡ whole call 6 → c ≡ whole call 8 → d ≡ whole call 10 → e ≡ whole call 12 → f ≡ whole call 14
    → call ≡ call_of nr arch ip (a ∷ b ∷ c ∷ d ∷ e ∷ f ∷ [])
unfolding number_at
call_of_words call nr arch ip a b c d e f is fields nr_is arch_is ip_is a_is b_is c_is d_is e_is f_is =
    let arg : (i : ℕ) → i < 6 → slice_index call.args i
    ≡ word_at call (16 + 8 * i) + 2 ^ 32 * word_at call (20 + 8 * i) = λ i below.
    halves _ _ _ (fields.args_low i (omega (arith, is.six, below)))
    (fields.args_high i (omega (arith, is.six, below)) (is.args i)) in
    ap (λ v. call_of v call.arch call.ip call.args) (sym (nr_is ∙ fields.nr is.nr))
    ∙ ap (λ v. call_of nr v call.ip call.args) (sym (arch_is ∙ fields.arch is.arch))
    ∙ ap (λ v. call_of nr arch v call.args) (halves _ _ _ fields.ip_low (fields.ip_high is.ip) ∙ sym ip_is)
    ∙ ap (λ v. call_of nr arch ip v) (six call.args is.six ∙ cc (
      arg 0 (omega arith) ∙ sym a_is,
      arg 1 (omega arith) ∙ sym b_is,
      arg 2 (omega arith) ∙ sym c_is,
      arg 3 (omega arith) ∙ sym d_is,
      arg 4 (omega arith) ∙ sym e_is,
      arg 5 (omega arith) ∙ sym f_is,
    ))
