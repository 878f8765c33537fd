-- The decision of the first entry that applies is that of all entries together.
use Rattle.std.proofs.Common.{◌≡◌, ℕ, zero, suc, ◌<◌, ◌≤◌, List, [], ◌∷◌, ◌&&◌, length, Bool, true, false}
use Rattle.std.proofs.Common.{refl, ◌∙◌, arith}
use Rattle.std.proofs.lemmas.Option.{slice_get_within}
use Rattle.call_data.specs.declared.sys_call.SysCall.{SysCall}
use Rattle.oci_profile.specs.declared.decision.Decision.{Decision}
use Rattle.oci_profile.specs.declared.profile.Entry.{Entry}
use Rattle.oci_profile.specs.Meaning.{decision_of}
use Rattle.explain.specs.Explained.{AppliesFirst, NoneApplies, applies}

-- an entry that does not apply leaves the decision to those after it
passed : (entry : Entry) (entries : List Entry) (default : Decision) (call : SysCall)
    → applies call entry ≡ false → decision_of (entry ∷ entries) default call.nr call
    ≡ decision_of entries default call.nr call
passed entry entries default call fails = rw fails refl

pub none_means : (entries : List Entry) (default : Decision) (call : SysCall) → NoneApplies entries call
    → decision_of entries default call.nr call ≡ default
none_means [] default call none = refl
none_means (entry ∷ entries) default call none =
    passed entry entries default call (none 0 entry refl)
    ∙ none_means entries default call (λ k other there. none (suc k) other there)

both : (a b : Bool) → a ≡ true → b ≡ true → (a && b) ≡ true
both true b h g = g
both false b h g = absurd cc

pub first_means : (entries : List Entry) (default : Decision) (call : SysCall) (place : ℕ)
    (decision : Decision) → AppliesFirst entries call place decision
    → decision_of entries default call.nr call ≡ decision
first_means [] default call place decision first = absurd cc
first_means (here ∷ entries) default call zero decision first =
    let same : here ≡ first.entry = cc (first.there) in
    rw same (rw (both _ _ first.named first.holds) first.decides)
first_means (here ∷ entries) default call (suc place) decision first =
    passed here entries default call (first.before 0 here (omega arith) refl)
    ∙ first_means entries default call place decision (record {
      entry = first.entry;
      there = first.there;
      named = first.named;
      holds = first.holds;
      decides = first.decides;
      before = λ k other below there. first.before (suc k) other (omega arith) there;
    })

-- the deciding entry is one of the list
pub within : (entries : List Entry) (call : SysCall) (place : ℕ) (decision : Decision)
    → AppliesFirst entries call place decision → place ≤ length entries
within entries call place decision first = let h : place < length entries =
    slice_get_within entries place first.entry first.there in omega arith
