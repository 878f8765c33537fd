-- A list of calls that grows by the number, and what it decides.
use Rattle.std.proofs.Common.{◌≡◌, ℕ, ◌+◌, ◌<◌, ◌≤◌, Bool, true, false, not, List, [], ◌∷◌, ◌++◌, cond, eqb, get_or}
use Rattle.std.proofs.Common.{length, All, Option, Some, None, arith, refl, ap, suc, sym, subst, ◌∙◌}
use Rattle.std.specs.Prelude.{find, option_map}
use Rattle.std.specs.List.{list_all}
use Rattle.std.proofs.lemmas.Bool.{eqb-true, ne_eqb}
use Rattle.std.proofs.lemmas.Grind.{common_steps}
use Rattle.std.proofs.lemmas.List.Elements.{All-push}
use Rattle.oci_profile.specs.declared.decision.Decision.{Decision}
use Rattle.oci_profile.specs.declared.profile.Entry.{Entry}
use Rattle.oci_profile.specs.Decision.{value_of}
use Rattle.profile_unit.specs.declared.unit.NamedCall.{NamedCall}
use Rattle.profile_unit.specs.Units.{IsUpTo, decision_in, first_named, is_listed, unlisted}

tail_of : (P : NamedCall → Type 0) (call : NamedCall) (calls : List NamedCall) → All P (call ∷ calls) → All P calls
tail_of P call calls all = λ k d lt. all (suc k) d (omega (arith, lt))

-- a number beyond the list has the decision of the rest
pub beyond : (calls : List NamedCall) (rest : Decision) (limit nr : ℕ) → All (λ call. call.nr < limit) calls
    → limit ≤ nr → decision_in calls rest nr ≡ rest
beyond [] rest limit nr all far = refl
beyond (call ∷ calls) rest limit nr all far =
    let near : call.nr < limit = all 0 call (omega arith) in
    rw (ne_eqb call.nr nr (λ e. absurd (omega (arith, e, near, far))))
    (beyond calls rest limit nr (tail_of (λ c. c.nr < limit) call calls all) far)

at_end : (calls : List NamedCall) (last : NamedCall) (rest : Decision) (nr : ℕ)
    → All (λ call. call.nr < nr) calls → last.nr ≡ nr
    → decision_in (calls ++ last ∷ []) rest nr ≡ last.decision
at_end [] last rest nr all is = rw is (grind (arith, common_steps))
at_end (call ∷ calls) last rest nr all is =
    let near : call.nr < nr = all 0 call (omega arith) in
    rw (ne_eqb call.nr nr (λ e. absurd (omega (arith, e, near))))
    (at_end calls last rest nr (tail_of (λ c. c.nr < nr) call calls all) is)

before_end : (calls : List NamedCall) (last : NamedCall) (rest : Decision) (nr : ℕ) → nr < last.nr
    → decision_in (calls ++ last ∷ []) rest nr ≡ decision_in calls rest nr
before_end [] last rest nr near = rw (ne_eqb last.nr nr (λ e. absurd (omega (arith, e, near)))) refl
before_end (call ∷ calls) last rest nr near =
    ap (λ d. cond (eqb call.nr nr) call.decision d) (before_end calls last rest nr near)

below_more : (calls : List NamedCall) (at : ℕ) → All (λ call. call.nr < at) calls
    → All (λ call. call.nr < at + 1) calls
below_more calls at all = λ k d lt. let near = all k d lt in omega (arith, near)

-- the next call is listed
pub pushed : (entries : List Entry) (default : Decision) (at : ℕ) (calls : List NamedCall) (last : NamedCall)
    → IsUpTo entries default at calls → last.nr ≡ at → last.decision ≡ first_named entries default at
    → IsUpTo entries default (at + 1) (calls ++ last ∷ [])
pushed entries default at calls last so_far is decides = record {
  decided = λ nr lt. elim (eqb nr at) as (λ b. eqb nr at ≡ b
      → value_of (decision_in (calls ++ last ∷ []) default nr) ≡ value_of (first_named entries default nr)) [
        | true ↦ λ same. subst (λ n. value_of (decision_in (calls ++ last ∷ []) default n)
            ≡ value_of (first_named entries default n)) (sym (eqb-true nr at same))
            (ap value_of (at_end calls last default at so_far.within is ∙ decides))
        | false ↦ λ other. let near : nr < at = grind (arith, common_steps, lt, other) in
            ap value_of (before_end calls last default nr (rw is near)) ∙ so_far.decided nr near
      ] refl;
  within = All-push (λ call. call.nr < at + 1) calls last (below_more calls at so_far.within) (rw is (omega arith));
  each = All-push (λ call. call.decision ≡ first_named entries default call.nr) calls last so_far.each
      (rw is decides);
}

-- the default decides the next call
pub left : (entries : List Entry) (default : Decision) (at : ℕ) (calls : List NamedCall)
    → IsUpTo entries default at calls → value_of (first_named entries default at) ≡ value_of default
    → IsUpTo entries default (at + 1) calls
left entries default at calls so_far same = record {
  decided = λ nr lt. elim (eqb nr at) as (λ b. eqb nr at ≡ b
      → value_of (decision_in calls default nr) ≡ value_of (first_named entries default nr)) [
        | true ↦ λ is. subst (λ n. value_of (decision_in calls default n)
            ≡ value_of (first_named entries default n)) (sym (eqb-true nr at is))
            (ap value_of (beyond calls default at at so_far.within (omega arith)) ∙ sym same)
        | false ↦ λ other. so_far.decided nr (grind (arith, common_steps, lt, other))
      ] refl;
  within = below_more calls at so_far.within;
  each = so_far.each;
}

pub none : (entries : List Entry) (default : Decision) → IsUpTo entries default 0 []
none entries default = record {
  decided = λ nr lt. absurd (omega (arith, lt));
  within = λ k d lt. absurd (omega (arith, lt));
  each = λ k d lt. absurd (omega (arith, lt));
}

-- each call is listed if none is unlisted
pub all_listed : (rest : Decision) (calls : List NamedCall) → unlisted rest calls ≡ None
    → list_all (λ call. is_listed rest call.decision) calls ≡ true
all_listed rest [] is = refl
all_listed rest (call ∷ calls) is = elim (is_listed rest call.decision) as (λ b. is_listed rest call.decision ≡ b
    → list_all (λ c. is_listed rest c.decision) (call ∷ calls) ≡ true) [
      | true ↦ λ e. rw e (all_listed rest calls (grind (arith, common_steps, is, e)))
      | false ↦ λ e. absurd (grind (arith, common_steps, is, e))
    ] refl

-- an unlisted call has the decision of the profile
pub is_unlisted : (entries : List Entry) (default : Decision) (calls : List NamedCall) (nr : ℕ)
    → All (λ call. call.decision ≡ first_named entries default call.nr) calls
    → unlisted default calls ≡ Some nr → is_listed default (first_named entries default nr) ≡ false
is_unlisted entries default [] nr all is = absurd cc
is_unlisted entries default (call ∷ calls) nr all is =
    let here : call.decision ≡ first_named entries default call.nr = all 0 call (omega arith) in
    elim (is_listed default call.decision) as (λ b. is_listed default call.decision ≡ b
    → is_listed default (first_named entries default nr) ≡ false) [
      | true ↦ λ e. is_unlisted entries default calls nr
          (tail_of (λ c. c.decision ≡ first_named entries default c.nr) call calls all)
          (grind (arith, common_steps, is, e))
      | false ↦ λ e. let same : call.nr ≡ nr = grind (arith, common_steps, is, e) in
          subst (λ n. is_listed default (first_named entries default n) ≡ false) same
          (subst (λ d. is_listed default d ≡ false) here e)
    ] refl
