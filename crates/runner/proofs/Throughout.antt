-- A cell of the share that runs during a whole round does a step.
use Rattle.std.proofs.Common.{◌≡◌, inl, inr, ℕ, ◌<◌, ◌≤◌, ◌%◌, List, [], ◌∷◌, ◌++◌, Option, None, Some}
use Rattle.std.proofs.Common.{IsSome, refl, sym, ap, subst, ◌∙◌, arith}
use Rattle.std.proofs.lemmas.List.{append_assoc}
use Rattle.std.proofs.lemmas.Bool.{cases_lt}
use Rattle.runtime_cell.specs.declared.cell.Did.{Did}
use Rattle.bpf_code.specs.declared.insn.Insn.{Insn}
use Rattle.runtime_history.specs.declared.event.Event.{Event}
use Rattle.runtime_history.specs.declared.event.Event.TheVariants.{Stepped}
use Rattle.runtime_history.specs.declared.event.Seen.{Seen}
use Rattle.runtime_history.specs.History.{GoesOn, Grows}
use Rattle.runner.specs.declared.rounds.Visit.{Visit}
use Rattle.runner.specs.Rounds.{Asked, AreVisits, IsNotPassed, IsStepped, MayVisit, RunsThroughout, Stepping}
use Rattle.runner.specs.Rounds.{StepsAt, WasStepped, id_in, id_of, last_of, seen_after}

still : (events : List Event) → GoesOn events events
still events = ([], refl)

then : (a b c : List Event) → GoesOn a b → GoesOn b c → GoesOn a c
then a b c first more = (
  more.0 ++ first.0,
  more.1 ∙ ap (λ l. more.0 ++ l) first.1 ∙ sym (append_assoc more.0 first.0 a),
)

step_goes : (b : Option (List Insn)) (id : ℕ) (did : Option Did) (old new : Seen) → StepsAt b id did old new
    → GoesOn old.all new.all
step_goes b id None old new looks = looks.goes_on
step_goes b id (Some did) old new grows = (Stepped id did ∷ grows.others, grows.all)

stepped_goes : (b : Option (List Insn)) (visit : Option Visit) (old new : Seen) → WasStepped b visit old new
    → GoesOn old.all new.all
stepped_goes b None old new same = subst (λ (s : Seen). GoesOn old.all s.all) (sym same) (still old.all)
stepped_goes b (Some visit) old new steps = step_goes b visit.id steps.0 old new steps.1

module _ (b : Option (List Insn)) (runner runners : ℕ) (start : Seen) where
  after_look : (asked : Asked) (may : MayVisit b runner runners asked) → GoesOn may.looked.all asked.new.all
  after_look asked may = stepped_goes b asked.visit may.looked asked.new may.steps

  visits_go : (visits : List Asked) → AreVisits b runner runners start visits
      → GoesOn start.all (seen_after start visits).all
  visits_go [] are = still start.all
  visits_go (asked ∷ earlier) are =
      let may = are.3 in
      let before = subst (λ (s : Seen). GoesOn start.all s.all) (sym are.2) (visits_go earlier are.4) in
      then start.all may.looked.all asked.new.all (then start.all asked.old.all may.looked.all before
      may.looks.goes_on) (after_look asked may)

  module _ (final : List Event) (id : ℕ) (low : 0 < id) (own : id % runners ≡ runner)
      (runs : RunsThroughout b start.all final id) where
    -- a look skips no such cell
    not_passed : (asked : Asked) (may : MayVisit b runner runners asked) → GoesOn start.all asked.old.all
        → GoesOn asked.new.all final → IsNotPassed runner runners asked.above (id_in asked.visit) id
    not_passed asked may before later = may.looks.each id (runs may.looked.all
        (then start.all asked.old.all may.looked.all before may.looks.goes_on)
        (then may.looked.all asked.new.all final (after_look asked may) later)
        may.looks.links may.looks.run may.looks.tell)

    did_step : (asked : Asked) (may : MayVisit b runner runners asked) → GoesOn start.all asked.old.all
        → GoesOn asked.new.all final → (visit : Visit) → visit.id ≡ id → (did : Option Did)
        → StepsAt b visit.id did may.looked asked.new → Stepping b id asked
    did_step asked may before later visit same None looks =
        let now = then start.all may.looked.all asked.new.all
        (then start.all asked.old.all may.looked.all before may.looks.goes_on) (after_look asked may) in
        absurd (looks.each id (runs asked.new.all now later looks.links looks.run looks.tell) (sym same))
    did_step asked may before later visit same (Some did) grows = record {
      before = may.looked;
      sees = may.looks.goes_on;
      own = may.looks.own;
      did = did;
      grows = subst (λ (i : ℕ). Grows b may.looked (Stepped i did) asked.new) same grows;
    }

    steps : (asked : Asked) (may : MayVisit b runner runners asked) → GoesOn start.all asked.old.all
        → GoesOn asked.new.all final → (visit : Visit) → asked.visit ≡ Some visit → visit.id ≡ id
        → Stepping b id asked
    steps asked may before later visit is same =
        let steps = subst (λ (v : Option Visit). WasStepped b v may.looked asked.new) is may.steps in
        did_step asked may before later visit same steps.0 steps.1

    here : (asked : Asked) (earlier : List Asked) (visit : Option Visit) → asked.visit ≡ visit
        → IsSome visit → asked.above ≡ last_of earlier → id ≤ id_of visit
        → IsNotPassed runner runners asked.above (id_in visit) id
        → ((v : Visit) → asked.visit ≡ Some v → v.id ≡ id → Stepping b id asked)
        → (id ≤ last_of earlier → IsStepped b id earlier) → IsStepped b id (asked ∷ earlier)
    here asked earlier None is some above below passed step rest = absurd cc
    here asked earlier (Some visit) is some above below passed step rest =
        elim (cases_lt (last_of earlier) id) [
          | inl after ↦ inl (let most : visit.id ≤ id = passed (let e = above in omega arith) own in
              let same : visit.id ≡ id = omega arith in step visit is same)
          | inr before ↦ inr (rest before)
        ]

    pub stepped : (visits : List Asked) → AreVisits b runner runners start visits
        → GoesOn (seen_after start visits).all final → id ≤ last_of visits → IsStepped b id visits
    stepped [] are later below = absurd (omega arith)
    stepped (asked ∷ earlier) are later below =
        let may = are.3 in
        let before = subst (λ (s : Seen). GoesOn start.all s.all) (sym are.2) (visits_go earlier are.4) in
        let goes = then asked.old.all may.looked.all asked.new.all may.looks.goes_on (after_look asked may) in
        here asked earlier asked.visit refl are.0 are.1 below (not_passed asked may before later)
        (steps asked may before later)
        (stepped earlier are.4 (subst (λ (s : Seen). GoesOn s.all final) are.2
        (then asked.old.all asked.new.all final goes later)))

-- the end of the round skips none either
pub each_steps : (b : Option (List Insn)) (runner runners : ℕ) (start : Seen) (end : Asked)
    (visits : List Asked) → end.visit ≡ None → end.above ≡ last_of visits → end.old ≡ seen_after start visits
    → MayVisit b runner runners end → AreVisits b runner runners start visits → (id : ℕ) → 0 < id
    → id % runners ≡ runner → RunsThroughout b start.all end.new.all id → IsStepped b id visits
each_steps b runner runners start end visits none above begins may are id low own runs =
    let before = subst (λ (s : Seen). GoesOn start.all s.all) (sym begins)
    (visits_go b runner runners start visits are) in
    let over : IsNotPassed runner runners end.above None id =
    subst (λ (v : Option Visit). IsNotPassed runner runners end.above (id_in v) id) none
    (not_passed b runner runners start end.new.all id low own runs end may before (still end.new.all)) in
    stepped b runner runners start end.new.all id low own runs visits are
    (subst (λ (s : Seen). GoesOn s.all end.new.all) begins
    (then end.old.all may.looked.all end.new.all may.looks.goes_on
    (after_look b runner runners start end may)))
    (elim (cases_lt (last_of visits) id) [
      | inl after ↦ absurd (over (let e = above in omega arith) own)
      | inr below ↦ below
    ])
