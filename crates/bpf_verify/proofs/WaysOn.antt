-- What the numbers of places ahead mean for walks, from the last place to the first.
use Rattle.std.proofs.Common.{◌≡◌, ◌<◌, ◌≤◌, ◌+◌, ◌-◌, ◌⊎◌, inl, inr, ℕ, zero, suc, List, [], ◌∷◌, Some}
use Rattle.std.proofs.Common.{length, get_or, slice_get, refl, sym, ap, subst, ◌∙◌, arith}
use Rattle.std.specs.Prelude.{slice_set}
use Rattle.std.proofs.lemmas.Bool.{cases_eq, cases_lt}
use Rattle.std.proofs.lemmas.Grind.{get_or-set_at}
use Rattle.std.proofs.lemmas.List.{get_or-set_other}
use Rattle.std.proofs.lemmas.Option.{same_Some, slice_get_within}
use Rattle.bpf_code.specs.declared.insn.Insn.{Insn}
use Rattle.bpf_code.specs.declared.flow.Flow.{Flow}
use Rattle.bpf_code.specs.declared.flow.Flow.TheVariants.{Returns, Jumps, Branches, Continues}
use Rattle.bpf_code.specs.Flow.{flow_of}
use Rattle.bpf_verify.specs.Ahead.{most_ahead}
use Rattle.bpf_verify.specs.Longest.{IsLongest, places_of}
use Rattle.bpf_verify.specs.Masks.{GoesBelow}
use Rattle.bpf_verify.specs.Sound.{IsSound}
use Rattle.bpf_verify.specs.Walks.{MayGo, Follows, IsWalk}
use Rattle.bpf_verify.proofs.Rules.{walk_inside}
use Rattle.bpf_verify.proofs.Stored.{forward}

abbrev pub number_at : List ℕ → ℕ → ℕ
number_at ahead at = get_or ahead at 0

-- a way on from this place has as many places as the number says
abbrev IsReached : List Insn → List ℕ → ℕ → Type 0
IsReached code ahead from = (number_at ahead from ≡ 1) ⊎ ((to : ℕ) × Follows code from to
    × (number_at ahead from ≡ number_at ahead to + 1))

-- the numbers are right from place i on
pub record Knows (code : List Insn) (i : ℕ) (ahead : List ℕ) : Type 0 where
  pub onward : (from to : ℕ) → i ≤ from → Follows code from to → number_at ahead to < number_at ahead from
  pub reached : (from : ℕ) → i ≤ from → from < length code → IsReached code ahead from
  pub small : (from : ℕ) → i ≤ from → from < length code → number_at ahead from ≤ length code - from

follows_inside : (code : List Insn) (from to : ℕ) → Follows code from to → from < length code
follows_inside code from to follows = slice_get_within code from follows.insn follows.stands

pub knows_none : (code : List Insn) (i : ℕ) (ahead : List ℕ) → length code ≤ i → Knows code i ahead
knows_none code i ahead past = record {
  onward = λ from to after follows. absurd (omega (arith, follows_inside code from to follows));
  reached = λ from after within. absurd (omega arith);
  small = λ from after within. absurd (omega arith);
}

most_onward : (f : Flow) (insn : Insn) (at to : ℕ) (ahead : List ℕ) → MayGo f insn at to
    → number_at ahead to ≤ most_ahead f insn at ahead
most_onward Returns insn at to ahead goes = absurd goes
most_onward Jumps insn at to ahead goes = omega (arith, ap (number_at ahead) goes)
most_onward Branches insn at to ahead (inl taken) = omega (arith, ap (number_at ahead) taken)
most_onward Branches insn at to ahead (inr not_taken) = omega (arith, ap (number_at ahead) not_taken)
most_onward Continues insn at to ahead goes = omega (arith, ap (number_at ahead) goes)

most_reached : (f : Flow) (insn : Insn) (at : ℕ) (ahead : List ℕ)
    → (most_ahead f insn at ahead ≡ 0) ⊎ ((to : ℕ) × MayGo f insn at to
    × (most_ahead f insn at ahead ≡ number_at ahead to))
most_reached Returns insn at ahead = inl refl
most_reached Jumps insn at ahead = inr (at + 1 + insn.k, refl, refl)
most_reached Branches insn at ahead = elim
    (cases_lt (number_at ahead (at + 1 + insn.jt)) (number_at ahead (at + 1 + insn.jf))) [
      | inl less ↦ inr (at + 1 + insn.jf, inr refl, omega arith)
      | inr more ↦ inr (at + 1 + insn.jt, inl refl, omega arith)
    ]
most_reached Continues insn at ahead = inr (at + 1, refl, refl)

most_small : (f : Flow) (insn : Insn) (at len : ℕ) (ahead : List ℕ) → at < len → GoesBelow f insn at len
    → ((from : ℕ) → at + 1 ≤ from → from < len → number_at ahead from ≤ len - from)
    → most_ahead f insn at ahead + 1 ≤ len - at
most_small Returns insn at len ahead within below small = omega arith
most_small Jumps insn at len ahead within below small =
    omega (arith, small (at + 1 + insn.k) (omega arith) below)
most_small Branches insn at len ahead within below small =
    omega (
      arith,
      small (at + 1 + insn.jt) (omega arith) below.0,
      small (at + 1 + insn.jf) (omega arith) below.1,
    )
most_small Continues insn at len ahead within below small = omega (arith, small (at + 1) (omega arith) below)

-- the number of this place is at most the number of places left
pub most_fits : (code : List Insn) (at : ℕ) (insn : Insn) (ahead : List ℕ) → Knows code (at + 1) ahead
    → at < length code → GoesBelow (flow_of insn.op) insn at (length code)
    → most_ahead (flow_of insn.op) insn at ahead + 1 ≤ length code - at
most_fits code at insn ahead knows within below =
    most_small (flow_of insn.op) insn at (length code) ahead within below knows.small

-- one place more
pub knows_more : (code : List Insn) (at : ℕ) (insn : Insn) (ahead : List ℕ) → Knows code (at + 1) ahead
    → slice_get code at ≡ Some insn → at < length code → at < length ahead
    → GoesBelow (flow_of insn.op) insn at (length code)
    → Knows code at (slice_set ahead at (most_ahead (flow_of insn.op) insn at ahead + 1))
knows_more code at insn ahead knows stands within room below =
    let most : ℕ = most_ahead (flow_of insn.op) insn at ahead in
    let new : List ℕ = slice_set ahead at (most + 1) in
    let here : number_at new at ≡ most + 1 = get_or-set_at ahead at at (most + 1) 0 refl room in
    let other : (p : ℕ) → at < p → number_at new p ≡ number_at ahead p = λ p later.
    get_or-set_other ahead at p (most + 1) 0 (λ same. omega (arith, same, later)) in
    let goes_of : (to : ℕ) → Follows code at to → MayGo (flow_of insn.op) insn at to = λ to follows.
    let G : Insn → Type 0 = λ i. MayGo (flow_of i.op) i at to in
    subst G (same_Some follows.insn insn (sym follows.stands ∙ stands)) follows.goes in
    record {
      onward = λ from to after follows.
          let later : from < to = forward (flow_of follows.insn.op) follows.insn from to follows.goes in
          elim (cases_eq from at) [
            | inl same ↦
                let F : ℕ → Type 0 = λ q. Follows code q to in
                let goes = goes_of to (subst F same follows) in
                omega (
                  arith,
                  here,
                  other to (omega arith),
                  most_onward (flow_of insn.op) insn at to ahead goes,
                  ap (number_at new) same,
                )
            | inr differs ↦ omega (
              arith,
              other to (omega arith),
              other from (omega arith),
              knows.onward from to (omega arith) follows,
            )
          ];
      reached = λ from after inside. elim (cases_eq from at) [
        | inl same ↦ elim (most_reached (flow_of insn.op) insn at ahead) [
          | inl none ↦ inl (omega (arith, here, none, ap (number_at new) same))
          | inr some ↦
              let later : at < some.0 = forward (flow_of insn.op) insn at some.0 some.1 in
              inr (
                some.0,
                record {
                  insn = insn;
                  stands = ap (slice_get code) same ∙ stands;
                  goes =
                      (let G : ℕ → Type 0 = λ q. MayGo (flow_of insn.op) insn q some.0 in
                      subst G (sym same) some.1);
                },
                omega (
                  arith,
                  here,
                  some.2,
                  other some.0 later,
                  ap (number_at new) same,
                ),
              )
        ]
        | inr differs ↦ elim (knows.reached from (omega arith) inside) [
          | inl one ↦ inl (other from (omega arith) ∙ one)
          | inr some ↦
              let later : from < some.0 = forward (flow_of some.1.insn.op) some.1.insn from some.0 some.1.goes
              in
              inr (
                some.0,
                some.1,
                omega (
                  arith,
                  other from (omega arith),
                  other some.0 (omega arith),
                  some.2,
                ),
              )
        ]
      ];
      small = λ from after inside. elim (cases_eq from at) [
        | inl same ↦ omega (
          arith,
          here,
          same,
          ap (number_at new) same,
          most_fits code at insn ahead knows within below,
        )
        | inr differs ↦ omega (arith, other from (omega arith), knows.small from (omega arith) inside)
      ];
    }

-- each place has itself ahead
some_ahead : (code : List Insn) (ahead : List ℕ) (from : ℕ) → Knows code 0 ahead → from < length code
    → 0 < number_at ahead from
some_ahead code ahead from knows within =
    elim (knows.reached from (omega arith) within)
    [ inl one ↦ omega (arith, one) | inr some ↦ omega (arith, some.2) ]

-- a walk has a way on with as many places as the number of its current place
walks_on : (code : List Insn) (ahead : List ℕ) (left : ℕ) (before : List ℕ) (at : ℕ) → IsSound code
    → Knows code 0 ahead → IsWalk code before at → number_at ahead at ≡ suc left
    → (passed : List ℕ) × (end : ℕ) × IsWalk code passed end × (places_of passed ≡ length before + suc left)
walks_on code ahead zero before at sound knows walk is = (before, at, walk, omega arith)
walks_on code ahead (suc left) before at sound knows walk is =
    elim (knows.reached at (omega arith) (walk_inside code before at sound walk)) [
      | inl one ↦ absurd (omega (arith, one, is))
      | inr some ↦
          let more = walks_on code ahead left (at ∷ before) some.0 sound knows (walk, some.1)
          (omega (arith, is, some.2)) in
          (more.0, more.1, more.2, omega (arith, more.3))
    ]

-- the places that a walk passed and those ahead of it are no more than the number of the first place
left_of : (code : List Insn) (ahead : List ℕ) (before : List ℕ) (at : ℕ) → Knows code 0 ahead
    → IsWalk code before at → length before + number_at ahead at ≤ number_at ahead 0
left_of code ahead [] at knows walk = omega (arith, ap (number_at ahead) walk)
left_of code ahead (last ∷ earlier) at knows walk =
    omega (arith, left_of code ahead earlier last knows walk.0, knows.onward last at (omega arith) walk.1)

pred_of : (n : ℕ) → 0 < n → (m : ℕ) × (n ≡ suc m)
pred_of zero some = absurd (omega arith)
pred_of (suc m) some = (m, refl)

pub first_is_longest : (code : List Insn) (ahead : List ℕ) → IsSound code → Knows code 0 ahead
    → IsLongest code (number_at ahead 0)
first_is_longest code ahead sound knows =
    let number = pred_of (number_at ahead 0) (some_ahead code ahead 0 knows sound.some) in
    let whole = walks_on code ahead number.0 [] 0 sound knows refl number.1 in
    record {
      some = (whole.0, whole.1, whole.2, omega (arith, whole.3, number.1));
      none_longer = λ before at walk. omega (
        arith,
        left_of code ahead before at knows walk,
        some_ahead code ahead at knows (walk_inside code before at sound walk),
      );
    }
