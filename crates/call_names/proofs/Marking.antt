-- One pass from the first place on marks all that it should.
use Rattle.std.proofs.Common.{◌≡◌, ◌⊎◌, inl, inr, ℕ, ◌+◌, ◌<◌, ◌≤◌, ◌&&◌, not, Bool, true, false, List, []}
use Rattle.std.proofs.Common.{◌∷◌, ◌++◌, cond, Some, length, length-append, get_or, refl, sym, ap, subst, ◌∙◌}
use Rattle.std.proofs.Common.{arith}
use Rattle.std.specs.Prelude.{slice_get, slice_set}
use Rattle.std.proofs.lemmas.Bool.{cases_eq, cases_lt}
use Rattle.std.proofs.lemmas.Grind.{common_steps, get_or-set_at}
use Rattle.std.proofs.lemmas.List.{get_or-set_other, get_or_append_left, get_or_past, set_past}
use Rattle.std.proofs.lemmas.Option.{slice_get-get_or}
use Rattle.std.proofs.Math.Seq.{get_or-append_seam}
use Rattle.bpf_code.specs.declared.flow.Flow.{Flow}
use Rattle.bpf_code.specs.declared.flow.Flow.TheVariants.{Returns, Jumps, Branches, Continues}
use Rattle.bpf_code.specs.declared.insn.Insn.{Insn}
use Rattle.bpf_code.specs.declared.operation.Operation.{Operation}
use Rattle.bpf_code.specs.declared.operation.Operation.TheVariants.{LoadData}
use Rattle.bpf_code.specs.Flow.{flow_of}
use Rattle.bpf_verify.specs.Walks.{IsWalk, MayGo}
use Rattle.call_names.specs.Marks.{IsBelow, Knows, Reaches, is_test, marked_on, other_after, other_by, passed}
use Rattle.call_names.specs.Tests.{IsNumberTest, compares_constant, writes_a}

abbrev has : List Bool → ℕ → Bool
has others at = get_or others at true

marked : (others : List Bool) (at : ℕ) → has (slice_set others at true) at ≡ true
marked others at = elim (cases_lt at (length others)) [
  | inl inside ↦ get_or-set_at others at at true true refl inside
  | inr past ↦ rw (set_past others at true past) (get_or_past others at true past)
]

-- a mark stays
stays : (others : List Bool) (at to : ℕ) → has (slice_set others at true) to ≡ false → has others to ≡ false
stays others at to none = elim (cases_eq to at) [
  | inl same ↦ absurd (let m : has (slice_set others at true) to ≡ true = rw same (marked others at) in cc)
  | inr other ↦ sym (get_or-set_other others at to true true other) ∙ none
]

stay : (f : Flow) (insn : Insn) (at to : ℕ) (others : List Bool) → has (marked_on f insn at others) to ≡ false
    → has others to ≡ false
stay Returns insn at to others none = none
stay Jumps insn at to others none = stays others (at + 1 + insn.k) to none
stay Branches insn at to others none = stays others (at + 1 + insn.jt) to
    (stays (slice_set others (at + 1 + insn.jt) true) (at + 1 + insn.jf) to none)
stay Continues insn at to others none = stays others (at + 1) to none

-- each place where it may go has a mark
next_marked : (f : Flow) (insn : Insn) (at to : ℕ) (others : List Bool) → MayGo f insn at to
    → has (marked_on f insn at others) to ≡ false → ⊥
next_marked Returns insn at to others goes none = goes
next_marked Jumps insn at to others goes none =
    let m : has (slice_set others (at + 1 + insn.k) true) to ≡ true =
    rw goes (marked others (at + 1 + insn.k)) in cc
next_marked Branches insn at to others (inl taken) none =
    let first : has (slice_set others (at + 1 + insn.jt) true) to ≡ false =
    stays (slice_set others (at + 1 + insn.jt) true) (at + 1 + insn.jf) to none in
    let m : has (slice_set others (at + 1 + insn.jt) true) to ≡ true =
    rw taken (marked others (at + 1 + insn.jt)) in cc
next_marked Branches insn at to others (inr not_taken) none =
    let m : has (slice_set (slice_set others (at + 1 + insn.jt) true) (at + 1 + insn.jf) true) to ≡ true =
    rw not_taken (marked (slice_set others (at + 1 + insn.jt) true) (at + 1 + insn.jf)) in cc
next_marked Continues insn at to others goes none =
    let m : has (slice_set others (at + 1) true) to ≡ true = rw goes (marked others (at + 1)) in cc

forward : (f : Flow) (insn : Insn) (from to : ℕ) → MayGo f insn from to → from < to
forward Returns insn from to goes = absurd goes
forward Jumps insn from to goes = omega (arith, goes)
forward Branches insn from to (inl taken) = omega (arith, taken)
forward Branches insn from to (inr not_taken) = omega (arith, not_taken)
forward Continues insn from to goes = omega (arith, goes)

walk_below : (code : List Insn) (before : List ℕ) (at : ℕ) → IsWalk code before at → IsBelow at before
walk_below code [] at walk = tt
walk_below code (last ∷ earlier) at walk = forward (flow_of walk.1.insn.op) walk.1.insn last at walk.1.goes

-- the first place has a mark, as nothing was loaded there
pub knows_start : (code : List Insn) (others : List Bool) → Knows code (slice_set others 0 true) 0
knows_start code others to [] below walk none =
    absurd (let m : has (slice_set others 0 true) to ≡ true = rw walk (marked others 0) in cc)
knows_start code others to (last ∷ earlier) below walk none = absurd (omega arith)

stands_here : (code : List Insn) (at : ℕ) (insn other : Insn) → slice_get code at ≡ Some insn
    → slice_get code at ≡ Some other → other ≡ insn
stands_here code at insn other one two = cc

-- an instruction after which A may not be the call's number
pub knows_marked : (code : List Insn) (others : List Bool) (at : ℕ) (insn : Insn)
    → slice_get code at ≡ Some insn → Knows code others at
    → Knows code (marked_on (flow_of insn.op) insn at others) (at + 1)
knows_marked code others at insn stands knows to [] below walk none =
    knows to [] tt walk (stay (flow_of insn.op) insn at to others none)
knows_marked code others at insn stands knows to (last ∷ earlier) below walk none = elim (cases_eq last at) [
  | inl here ↦
      let there : slice_get code at ≡ Some walk.1.insn = rw (← here) walk.1.stands in
      let same : walk.1.insn ≡ insn = stands_here code at insn walk.1.insn stands there in
      let goes : MayGo (flow_of insn.op) insn at to =
      subst (λ i. MayGo (flow_of i.op) i at to) same
      (subst (λ l. MayGo (flow_of walk.1.insn.op) walk.1.insn l to) here walk.1.goes) in
      absurd (next_marked (flow_of insn.op) insn at to others goes none)
  | inr other ↦ knows to (last ∷ earlier) (omega arith) walk (stay (flow_of insn.op) insn at to others none)
]

holds_by : (op : Operation) (k : ℕ) (other : Bool) → other_by op k other ≡ false
    → ((op ≡ LoadData) × (k ≡ 0)) ⊎ ((writes_a op ≡ false) × (other ≡ false))
holds_by LoadData k other none = inl (refl, grind (arith, common_steps))
holds_by _ k other none = inr (grind (arith, common_steps))

-- an instruction after which A is the call's number
pub knows_kept : (code : List Insn) (others : List Bool) (at : ℕ) (insn : Insn)
    → slice_get code at ≡ Some insn → other_after insn (has others at) ≡ false → Knows code others at
    → Knows code others (at + 1)
knows_kept code others at insn stands kept knows to [] below walk none = knows to [] tt walk none
knows_kept code others at insn stands kept knows to (last ∷ earlier) below walk none =
    elim (cases_eq last at) [
      | inl here ↦ elim (holds_by insn.op insn.k (has others at) kept) [
        | inl loads ↦ inl (record { insn = insn; stands = rw here stands; loads = loads.0; number = loads.1 })
        | inr keeps ↦
            let earlier_walk : IsWalk code earlier at = subst (λ l. IsWalk code earlier l) here walk.0 in
            inr (
              record { insn = insn; stands = rw here stands; keeps = keeps.0 },
              knows at earlier (walk_below code earlier at earlier_walk) earlier_walk keeps.1,
            )
      ]
      | inr other ↦ knows to (last ∷ earlier) (omega arith) walk none
    ]

below_more : (before : List ℕ) (low high : ℕ) → low ≤ high → IsBelow low before → IsBelow high before
below_more [] low high le below = tt
below_more (last ∷ earlier) low high le below = omega arith

is_all : (reached compares other : Bool) → (reached && compares && not other) ≡ true → (reached ≡ true)
    × (compares ≡ true) × (other ≡ false)
is_all true true false h = (refl, refl, refl)
is_all true true true h = absurd cc
is_all true false other h = absurd cc
is_all false compares other h = absurd cc

same_inside : (xs : List Bool) (at : ℕ) (d e : Bool) → at < length xs → get_or xs at d ≡ get_or xs at e
same_inside xs at d e inside =
    let one : slice_get xs at ≡ Some (get_or xs at d) = slice_get-get_or xs at d inside in
    let other : slice_get xs at ≡ Some (get_or xs at e) = slice_get-get_or xs at e inside in
    cc

pub is_number_test : (code : List Insn) (reached others : List Bool) (at : ℕ) (d : Insn) → at < length code
    → length others ≡ length code → Reaches code reached → Knows code others (length code)
    → is_test (get_or code at d) (get_or reached at false) (get_or others at false) ≡ true
    → IsNumberTest code at
is_number_test code reached others at d inside room reaches knows is =
    let parts = is_all (get_or reached at false) (compares_constant (get_or code at d).op)
    (get_or others at false) is in
    let none : has others at ≡ false = same_inside others at true false (omega arith) ∙ parts.2 in
    record {
      insn = get_or code at d;
      stands = slice_get-get_or code at d inside;
      reached = reaches at parts.0;
      compares = parts.1;
      number = λ before walk. knows at before
          (below_more before at (length code) (omega arith) (walk_below code before at walk)) walk none;
    }

knows_by : (code : List Insn) (others : List Bool) (at : ℕ) (insn : Insn) (other : Bool)
    → other ≡ other_after insn (has others at) → slice_get code at ≡ Some insn → Knows code others at
    → Knows code (cond other (marked_on (flow_of insn.op) insn at others) others) (at + 1)
knows_by code others at insn true is stands knows = knows_marked code others at insn stands knows
knows_by code others at insn false is stands knows = knows_kept code others at insn stands (sym is) knows

knows_next : (code : List Insn) (others : List Bool) (at : ℕ) (insn : Insn) → slice_get code at ≡ Some insn
    → Knows code others at → Knows code (passed insn at others) (at + 1)
knows_next code others at insn stands knows =
    knows_by code others at insn (other_after insn (has others at)) refl stands knows

pub knows_after : (code : List Insn) (others news : List Bool) (at : ℕ) (d : Insn) → at < length code
    → news ≡ passed (get_or code at d) at others → Knows code others at → Knows code news (at + 1)
knows_after code others news at d inside new knows =
    subst (λ ms. Knows code ms (at + 1)) (sym new)
    (knows_next code others at (get_or code at d) (slice_get-get_or code at d inside) knows)

-- with an answer for one more place
pub answered_more : (code : List Insn) (tests : List Bool) (answer : Bool)
    → ((k : ℕ) → get_or tests k false ≡ true → IsNumberTest code k)
    → (answer ≡ true → IsNumberTest code (length tests))
    → (k : ℕ) → get_or (tests ++ answer ∷ []) k false ≡ true → IsNumberTest code k
answered_more code tests answer sound here k said = elim (cases_lt k (length tests)) [
  | inl before ↦ sound k (sym (get_or_append_left tests (answer ∷ []) false k before) ∙ said)
  | inr after ↦ elim (cases_eq k (length tests)) [
    | inl same ↦
        let is : answer ≡ true = sym (get_or-append_seam tests answer [] false)
        ∙ (ap (λ n. get_or (tests ++ answer ∷ []) n false) (sym same) ∙ said) in
        rw same (here is)
    | inr past ↦
        let long : length (tests ++ answer ∷ []) ≤ k = omega (arith, length-append {A = Bool}) in
        absurd (let none : get_or (tests ++ answer ∷ []) k false ≡ false =
        get_or_past (tests ++ answer ∷ []) k false long in cc)
  ]
]

-- a place that is marked now was so before, or is this one
marked_by : (reached : List Bool) (at k : ℕ) → get_or (slice_set reached at true) k false ≡ true
    → (k ≡ at) ⊎ (get_or reached k false ≡ true)
marked_by reached at k is = elim (cases_eq k at) [
  | inl same ↦ inl same
  | inr other ↦ inr (sym (get_or-set_other reached at k true false other) ∙ is)
]

marked_next : (f : Flow) (insn : Insn) (at k : ℕ) (reached : List Bool)
    → get_or (marked_on f insn at reached) k false ≡ true
    → MayGo f insn at k ⊎ (get_or reached k false ≡ true)
marked_next Returns insn at k reached is = inr is
marked_next Jumps insn at k reached is = marked_by reached (at + 1 + insn.k) k is
marked_next Branches insn at k reached is =
    elim (marked_by (slice_set reached (at + 1 + insn.jt) true) (at + 1 + insn.jf) k is) [
      | inl fails ↦ inl (inr fails)
      | inr more ↦ elim (marked_by reached (at + 1 + insn.jt) k more)
          [ inl holds ↦ inl (inl holds) | inr old ↦ inr old ]
    ]
marked_next Continues insn at k reached is = marked_by reached (at + 1) k is

pub reaches_start : (code : List Insn) (reached : List Bool) → Reaches code reached
    → Reaches code (slice_set reached 0 true)
reaches_start code reached reaches k is =
    elim (marked_by reached 0 k is) [ inl start ↦ ([], start) | inr old ↦ reaches k old ]

pub reaches_after : (code : List Insn) (reached news : List Bool) (at : ℕ) (d : Insn) → at < length code
    → get_or reached at false ≡ true → news ≡ marked_on (flow_of (get_or code at d).op)
    (get_or code at d) at reached
    → Reaches code reached → Reaches code news
reaches_after code reached news at d inside here new reaches k is =
    let walk = reaches at here in
    elim (marked_next (flow_of (get_or code at d).op) (get_or code at d) at k reached
    (subst (λ ms. get_or ms k false ≡ true) new is)) [
      | inl goes ↦ (
        at ∷ walk.0,
        (
          walk.1,
          record {
            insn = get_or code at d;
            stands =
                slice_get-get_or code at d inside;
            goes = goes;
          },
        ),
      )
      | inr old ↦ reaches k old
    ]

abbrev pub Answered : List Insn → List Bool → ℕ → Type 0
Answered code tests at = (length tests ≡ at) × ((k : ℕ) → get_or tests k false ≡ true → IsNumberTest code k)

pub answered_next : (code : List Insn) (reached others tests news : List Bool) (at : ℕ) (d : Insn)
    (answer : Bool) → at < length code → length others ≡ length code → Reaches code reached
    → Knows code others (length code)
    → answer ≡ is_test (get_or code at d) (get_or reached at false) (get_or others at false)
    → news ≡ tests ++ answer ∷ [] → Answered code tests at → Answered code news (at + 1)
answered_next code reached others tests news at d answer inside room reaches knows is new answered =
    let here : answer ≡ true → IsNumberTest code (length tests) = λ said.
    subst (IsNumberTest code) (sym answered.0)
    (is_number_test code reached others at d inside room reaches knows (sym is ∙ said)) in
    let long : length (tests ++ answer ∷ []) ≡ at + 1 = omega (arith, length-append {A = Bool}, answered.0) in
    subst (λ ts. Answered code ts (at + 1)) (sym new) (long, answered_more code tests answer answered.1 here)
