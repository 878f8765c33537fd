-- What the masks mean for walks, place by place.
use Rattle.std.proofs.Common.{◌≡◌, ◌≢◌, ◌<◌, ◌+◌, ◌-◌, ◌^◌, ◌⊎◌, inl, inr, ℕ, List, [], ◌∷◌, Some, length}
use Rattle.std.proofs.Common.{get_or, slice_get, min, max, bit_and, bit_or, refl, sym, ap, subst, ◌∙◌, arith}
use Rattle.std.specs.Int.{bit_at}
use Rattle.std.proofs.lemmas.Nat.Bits.{bit_at_and, bit_at_or, bit_at-pow_same, bit_at-pow_other, bit_at-lt}
use Rattle.std.proofs.lemmas.Nat.Bits.{bit_at-zero, bit_at_ones}
use Rattle.std.proofs.lemmas.Option.{same_Some}
use Rattle.std.proofs.lemmas.Bool.{cases_eq}
use Rattle.std.proofs.lemmas.Grind.{get_or-set_at}
use Rattle.std.proofs.lemmas.List.{get_or-set_other}
use Rattle.std.proofs.Math.ListN.{length-set}
use Rattle.bpf_code.specs.declared.insn.Insn.{Insn}
use Rattle.bpf_code.specs.declared.flow.Flow.{Flow}
use Rattle.bpf_code.specs.declared.flow.Flow.TheVariants.{Returns, Jumps, Branches, Continues}
use Rattle.bpf_code.specs.declared.flow.Scratch.{Scratch}
use Rattle.bpf_code.specs.declared.flow.Scratch.TheVariants.{Loads, Stores, Untouched}
use Rattle.bpf_code.specs.Flow.{flow_of, scratch_of}
use Rattle.bpf_verify.specs.Walks.{MayGo, Follows, IsWalk, IsStoredOn}
use Rattle.bpf_verify.specs.Sound.{KeepsNumber, FindsWord}
use Rattle.bpf_verify.specs.Faults.{IsFirstUnstored}
use Rattle.bpf_verify.proofs.Rules.{loads_small}
use Rattle.bpf_verify.specs.Masks.{stored_after, narrowed, passed_on}

-- the last place that was passed is below this one
abbrev pub Below : ℕ → List ℕ → Type 0
Below i [] = Unit {0}
Below i (last ∷ earlier) = last < i

-- a walk to this place that does not store the word
pub record Bypass (code : List Insn) (word at : ℕ) : Type 0 where
  pub before : List ℕ
  pub walk : IsWalk code before at
  pub unstored : ¬ IsStoredOn code word before

-- what the masks mean after all places below i were passed
pub record Tells (code : List Insn) (i : ℕ) (masks : List ℕ) : Type 0 where
  pub set : (p w : ℕ) (before : List ℕ) → p < length masks → w < 16 → bit_at (get_or masks p 0) w ≡ 1
      → IsWalk code before p → Below i before → IsStoredOn code w before
  pub clear : (p w : ℕ) → p < length masks → w < 16 → bit_at (get_or masks p 0) w ≡ 0 → Bypass code w p

-- walks go forward
pub forward : (f : Flow) (insn : Insn) (from to : ℕ) → MayGo f insn from to → from < to
forward Returns insn from to goes = absurd goes
forward Jumps insn from to goes = omega (arith, goes)
forward Branches insn from to (inl taken) = omega (arith, taken)
forward Branches insn from to (inr not_taken) = omega (arith, not_taken)
forward Continues insn from to goes = omega (arith, goes)

walk_below : (code : List Insn) (before : List ℕ) (at : ℕ) → IsWalk code before at → Below at before
walk_below code [] at walk = tt
walk_below code (last ∷ earlier) at walk = forward (flow_of walk.1.insn.op) walk.1.insn last at walk.1.goes

both : (a b m : ℕ) → m ≡ min a b → m ≡ 1 → a < 2 → b < 2 → (a ≡ 1) × (b ≡ 1)
both a b m is one small_a small_b = (omega arith, omega arith)

either : (a b m : ℕ) → m ≡ min a b → m ≡ 0 → (a ≡ 0) ⊎ (b ≡ 0)
either a b m is none = elim (cases_eq a 0) [ inl e ↦ inl e | inr ne ↦ inr (omega arith) ]

-- the bit of a place's mask
abbrev bit_of : List ℕ → ℕ → ℕ → ℕ
bit_of masks p w = bit_at (get_or masks p 0) w

bit_of-narrowed_same : (t stored : ℕ) (masks : List ℕ) (p w : ℕ) → p < length masks → p ≡ t
    → bit_of (narrowed t stored masks) p w ≡ min (bit_of masks p w) (bit_at stored w)
bit_of-narrowed_same t stored masks p w within same =
    ap (λ v. bit_at v w) (get_or-set_at masks t p (bit_and (get_or masks t 0) stored) 0 same (omega arith))
    ∙ bit_at_and (get_or masks t 0) stored w
    ∙ ap (λ q. min (bit_of masks q w) (bit_at stored w)) (sym same)

bit_of-narrowed_other : (t stored : ℕ) (masks : List ℕ) (p w : ℕ) → p ≢ t
    → bit_of (narrowed t stored masks) p w ≡ bit_of masks p w
bit_of-narrowed_other t stored masks p w other =
    ap (λ v. bit_at v w) (get_or-set_other masks t p (bit_and (get_or masks t 0) stored) 0 other)

-- a place's mask after another one's was narrowed
narrowed_set : (t stored : ℕ) (masks : List ℕ) (p w : ℕ) → p < length masks
    → bit_of (narrowed t stored masks) p w ≡ 1
    → (bit_of masks p w ≡ 1) × (p ≡ t → bit_at stored w ≡ 1)
narrowed_set t stored masks p w within set = elim (cases_eq p t) [
  | inl same ↦ let parts = both (bit_of masks p w) (bit_at stored w) (bit_of (narrowed t stored masks) p w)
      (bit_of-narrowed_same t stored masks p w within same) set (bit_at-lt (get_or masks p 0) w)
      (bit_at-lt stored w) in
      (parts.0, λ _. parts.1)
  | inr other ↦ (sym (bit_of-narrowed_other t stored masks p w other) ∙ set, λ same. absurd (other same))
]

narrowed_clear : (t stored : ℕ) (masks : List ℕ) (p w : ℕ) → p < length masks
    → bit_of (narrowed t stored masks) p w ≡ 0
    → (bit_of masks p w ≡ 0) ⊎ ((p ≡ t) × (bit_at stored w ≡ 0))
narrowed_clear t stored masks p w within clear = elim (cases_eq p t) [
  | inl same ↦ elim (either (bit_of masks p w) (bit_at stored w) (bit_of (narrowed t stored masks) p w)
      (bit_of-narrowed_same t stored masks p w within same) clear) [
        | inl before ↦ inl before
        | inr now ↦ inr (same, now)
      ]
  | inr other ↦ inl (sym (bit_of-narrowed_other t stored masks p w other) ∙ clear)
]

length-narrowed : (t stored : ℕ) (masks : List ℕ) → length (narrowed t stored masks) ≡ length masks
length-narrowed t stored masks = length-set masks t (bit_and (get_or masks t 0) stored)

pub length-passed_on : (f : Flow) (insn : Insn) (at stored : ℕ) (masks : List ℕ)
    → length (passed_on f insn at stored masks) ≡ length masks
length-passed_on Returns insn at stored masks = refl
length-passed_on Jumps insn at stored masks = length-narrowed (at + 1 + insn.k) stored masks
length-passed_on Branches insn at stored masks =
    length-narrowed (at + 1 + insn.jf) stored (narrowed (at + 1 + insn.jt) stored masks)
    ∙ length-narrowed (at + 1 + insn.jt) stored masks
length-passed_on Continues insn at stored masks = length-narrowed (at + 1) stored masks

-- a bit is set where it was before, and was stored wherever the filter may go from here
passed_set : (f : Flow) (insn : Insn) (at stored : ℕ) (masks : List ℕ) (p w : ℕ) → p < length masks
    → bit_of (passed_on f insn at stored masks) p w ≡ 1
    → (bit_of masks p w ≡ 1) × (MayGo f insn at p → bit_at stored w ≡ 1)
passed_set Returns insn at stored masks p w within set = (set, λ goes. absurd goes)
passed_set Jumps insn at stored masks p w within set =
    narrowed_set (at + 1 + insn.k) stored masks p w within set
passed_set Branches insn at stored masks p w within set =
    let once : List ℕ = narrowed (at + 1 + insn.jt) stored masks in
    let second = narrowed_set (at + 1 + insn.jf) stored once p w
    (omega (arith, length-narrowed (at + 1 + insn.jt) stored masks)) set in
    let first = narrowed_set (at + 1 + insn.jt) stored masks p w within second.0 in
    (first.0, λ goes. elim goes [ inl taken ↦ first.1 taken | inr not_taken ↦ second.1 not_taken ])
passed_set Continues insn at stored masks p w within set = narrowed_set (at + 1) stored masks p w within set

-- a bit is clear where it was before, or where the filter may go from here without the word
passed_clear : (f : Flow) (insn : Insn) (at stored : ℕ) (masks : List ℕ) (p w : ℕ) → p < length masks
    → bit_of (passed_on f insn at stored masks) p w ≡ 0
    → (bit_of masks p w ≡ 0) ⊎ (MayGo f insn at p × (bit_at stored w ≡ 0))
passed_clear Returns insn at stored masks p w within clear = inl clear
passed_clear Jumps insn at stored masks p w within clear =
    narrowed_clear (at + 1 + insn.k) stored masks p w within clear
passed_clear Branches insn at stored masks p w within clear =
    let once : List ℕ = narrowed (at + 1 + insn.jt) stored masks in
    elim (narrowed_clear (at + 1 + insn.jf) stored once p w
    (omega (arith, length-narrowed (at + 1 + insn.jt) stored masks)) clear) [
      | inl before ↦ elim (narrowed_clear (at + 1 + insn.jt) stored masks p w within before) [
        | inl first ↦ inl first
        | inr now ↦ inr (inl now.0, now.1)
      ]
      | inr now ↦ inr (inr now.0, now.1)
    ]
passed_clear Continues insn at stored masks p w within clear =
    narrowed_clear (at + 1) stored masks p w within clear

-- the mask after an instruction
max_zero : (a b m : ℕ) → m ≡ max a b → b ≡ 0 → m ≡ a
max_zero a b m is none = omega arith

one_is_none : ◌≡◌ {A = ℕ} 1 0 → ⊥
one_is_none e = omega (arith, e)

max_none : (a b m : ℕ) → m ≡ max a b → m ≡ 0 → (a ≡ 0) × (b ≡ 0)
max_none a b m is none = (omega arith, omega arith)

after_set : (s : Scratch) (k mask w : ℕ) → bit_at (stored_after s k mask) w ≡ 1
    → ((s ≡ Stores) × (k ≡ w)) ⊎ (bit_at mask w ≡ 1)
after_set Stores k mask w set = elim (cases_eq k w) [
  | inl same ↦ inl (refl, same)
  | inr other ↦ inr (sym (max_zero (bit_at mask w) (bit_at (2 ^ k) w) (bit_at (bit_or mask (2 ^ k)) w)
      (bit_at_or mask (2 ^ k) w) (bit_at-pow_other k w (λ e. other (sym e)))) ∙ set)
]
after_set Loads k mask w set = inr set
after_set Untouched k mask w set = inr set

after_clear : (s : Scratch) (k mask w : ℕ) → bit_at (stored_after s k mask) w ≡ 0 → (bit_at mask w ≡ 0)
    × (s ≡ Stores → k ≡ w → ⊥)
after_clear Stores k mask w clear =
    let parts = max_none (bit_at mask w) (bit_at (2 ^ k) w) (bit_at (bit_or mask (2 ^ k)) w)
    (bit_at_or mask (2 ^ k) w) clear in (
      parts.0,
      λ _ same. let set : bit_at (2 ^ k) w ≡ 1 = ap (λ i. bit_at (2 ^ k) i) (sym same)
          ∙ bit_at-pow_same k in one_is_none (sym set ∙ parts.1),
    )
after_clear Loads k mask w clear = (clear, λ e. absurd (cc))
after_clear Untouched k mask w clear = (clear, λ e. absurd (cc))

-- before any place was passed, only the first one can be reached
starts_set : (code : List Insn) (masks : List ℕ) → get_or masks 0 0 ≡ 0 → (p w : ℕ) (before : List ℕ)
    → p < length masks → w < 16 → bit_of masks p w ≡ 1 → IsWalk code before p → Below 0 before
    → IsStoredOn code w before
starts_set code masks first p w [] within small set walk below =
    let none : bit_of masks p w ≡ 0 = ap (λ q. bit_of masks q w) walk ∙ ap (λ n. bit_at n w) first
    ∙ bit_at-zero w in
    absurd (one_is_none (sym set ∙ none))
starts_set code masks first p w (last ∷ earlier) within small set walk below = absurd (omega (arith, below))

starts_clear : (code : List Insn) (masks : List ℕ) (p w : ℕ) → bit_of masks p w ≡ 0
    → (0 < p → get_or masks p 0 ≡ 2 ^ 16 - 1) → w < 16 → Bypass code w p
starts_clear code masks p w clear other small = elim (cases_eq p 0) [
  | inl start ↦ record { before = []; walk = start; unstored = λ stored. stored }
  | inr later ↦
      let ones : bit_of masks p w ≡ 1 = ap (λ n. bit_at n w) (other (omega arith)) ∙ bit_at_ones 16 w small in
      absurd (one_is_none (sym ones ∙ clear))
]

pub tells_start : (code : List Insn) (masks : List ℕ) → get_or masks 0 0 ≡ 0
    → ((p : ℕ) → 0 < p → p < length masks → get_or masks p 0 ≡ 2 ^ 16 - 1) → Tells code 0 masks
tells_start code masks first others = record {
  set = starts_set code masks first;
  clear = λ p w within small clear. starts_clear code masks p w clear (λ later. others p later within) small;
}

-- one more place was passed
step_set : (code : List Insn) (i : ℕ) (insn : Insn) (masks : List ℕ) → Tells code i masks
    → slice_get code i ≡ Some insn → i < length masks
    → (p w : ℕ) (before : List ℕ) → p < length masks → w < 16
    → bit_of (passed_on (flow_of insn.op) insn i (stored_after (scratch_of insn.op) insn.k (get_or masks i 0))
    masks) p w ≡ 1
    → IsWalk code before p → Below (i + 1) before → IsStoredOn code w before
step_set code i insn masks tells stands here p w [] within small set walk below =
    let parts = passed_set (flow_of insn.op) insn i
    (stored_after (scratch_of insn.op) insn.k (get_or masks i 0)) masks p w within set in
    tells.set p w [] within small parts.0 walk tt
step_set code i insn masks tells stands here p w (last ∷ earlier) within small set walk below =
    let stored : ℕ = stored_after (scratch_of insn.op) insn.k (get_or masks i 0) in
    let parts = passed_set (flow_of insn.op) insn i stored masks p w within set in
    elim (cases_eq last i) [
      | inr other ↦ tells.set p w (last ∷ earlier) within small parts.0 walk (omega arith)
      | inl same ↦
          let follows : Follows code i p = let F : ℕ → Type 0 = λ q. Follows code q p in
          subst F same walk.1 in
          let insn_is : follows.insn ≡ insn = same_Some follows.insn insn (sym follows.stands ∙ stands) in
          let goes : MayGo (flow_of insn.op) insn i p = let G : Insn → Type 0 = λ x.
          MayGo (flow_of x.op) x i p in subst G insn_is follows.goes in
          elim (after_set (scratch_of insn.op) insn.k (get_or masks i 0) w (parts.1 goes)) [
            | inl stores ↦ inl (record {
              insn = insn;
              stands = ap (λ q. slice_get code q) same ∙ stands;
              stores = stores.0;
              word_is = stores.1;
            })
            | inr bit ↦
                let front : IsWalk code earlier i = let W : ℕ → Type 0 = λ q. IsWalk code earlier q in
                subst W same walk.0 in
                inr (tells.set i w earlier here small bit front (walk_below code earlier i front))
          ]
    ]

step_clear : (code : List Insn) (i : ℕ) (insn : Insn) (masks : List ℕ) → Tells code i masks
    → slice_get code i ≡ Some insn → i < length masks
    → (p w : ℕ) → p < length masks → w < 16
    → bit_of (passed_on (flow_of insn.op) insn i (stored_after (scratch_of insn.op) insn.k (get_or masks i 0))
    masks) p w ≡ 0
    → Bypass code w p
step_clear code i insn masks tells stands here p w within small clear =
    let stored : ℕ = stored_after (scratch_of insn.op) insn.k (get_or masks i 0) in
    elim (passed_clear (flow_of insn.op) insn i stored masks p w within clear) [
      | inl before ↦ tells.clear p w within small before
      | inr now ↦
          let parts = after_clear (scratch_of insn.op) insn.k (get_or masks i 0) w now.1 in
          let front : Bypass code w i = tells.clear i w here small parts.0 in
          record {
            before = i ∷ front.before;
            walk = (front.walk, record { insn = insn; stands = stands; goes = now.0 });
            unstored = λ stored_on. elim stored_on [
              | inl stores ↦
                  let insn_is : stores.insn ≡ insn =
                  same_Some stores.insn insn (sym stores.stands ∙ stands) in
                  parts.1 (ap (λ (x : Insn). scratch_of x.op) (sym insn_is) ∙ stores.stores)
                  (ap (λ (x : Insn). x.k) (sym insn_is) ∙ stores.word_is)
              | inr earlier ↦ front.unstored earlier
            ];
          }
    ]

pub tells_more : (code : List Insn) (i : ℕ) (insn : Insn) (masks : List ℕ) → Tells code i masks
    → slice_get code i ≡ Some insn → i < length masks
    → Tells code (i + 1) (passed_on (flow_of insn.op) insn i
    (stored_after (scratch_of insn.op) insn.k (get_or masks i 0)) masks)
tells_more code i insn masks tells stands here =
    let length_is = length-passed_on (flow_of insn.op) insn i
    (stored_after (scratch_of insn.op) insn.k (get_or masks i 0)) masks in
    record {
      set = λ p w before within. step_set code i insn masks tells stands here p w before
          (omega (arith, within, length_is));
      clear = λ p w within. step_clear code i insn masks tells stands here p w
          (omega (arith, within, length_is));
    }

-- a load whose word's bit is set finds the word on every walk
pub finds_set : (code : List Insn) (at : ℕ) (insn : Insn) (masks : List ℕ) → Tells code at masks
    → at < length masks → KeepsNumber insn.op insn.k
    → (scratch_of insn.op ≡ Loads → bit_at (get_or masks at 0) insn.k ≡ 1) → FindsWord code at insn
finds_set code at insn masks tells here keeps set loads before walk =
    tells.set at insn.k before here (loads_small insn.op insn.k loads keeps) (set loads) walk
    (walk_below code before at walk)

-- a load whose word's bit is clear misses it on some walk
pub misses_clear : (code : List Insn) (at : ℕ) (insn : Insn) (masks : List ℕ) → Tells code at masks
    → at < length masks → slice_get code at ≡ Some insn → KeepsNumber insn.op insn.k
    → scratch_of insn.op ≡ Loads → bit_at (get_or masks at 0) insn.k ≡ 0
    → ((earlier : ℕ) (other : Insn) → earlier < at → slice_get code earlier ≡ Some other
    → FindsWord code earlier other)
    → IsFirstUnstored code at
misses_clear code at insn masks tells here stands keeps loads clear found =
    let bypass : Bypass code insn.k at = tells.clear at insn.k here (loads_small insn.op insn.k loads keeps)
    clear in
    record {
      insn = insn;
      stands = stands;
      loads = loads;
      before = bypass.before;
      walk = bypass.walk;
      unstored = bypass.unstored;
      earlier_find = found;
    }
