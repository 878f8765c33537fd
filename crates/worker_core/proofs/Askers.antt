-- Only a worker that claims is given a request.
use Rattle.std.proofs.Common.{◌≡◌, inl, inr, ℕ, nat_lt, Bool, true, false, if◌then◌else◌, List, Option, Some}
use Rattle.std.proofs.Common.{None, refl, sym, ◌∙◌}
use Rattle.cri_msgs.specs.declared.calls.Request.{Request}
use Rattle.worker_core.specs.declared.answers.Answer.{Answer}
use Rattle.worker_core.specs.declared.answers.Answer.TheVariants.{Claimed as Given, Done, Refused}
use Rattle.worker_core.specs.declared.answers.NodeRefusal.{NodeRefusal}
use Rattle.worker_core.specs.declared.answers.NodeRefusal.TheVariants.{ClockBack, Memory}
use Rattle.worker_core.specs.declared.claims.Grant.{Grant}
use Rattle.worker_core.specs.declared.events.AgentEvent.{AgentEvent}
use Rattle.worker_core.specs.declared.events.AgentEvent.TheVariants.{Admit, Delete, Claim, Report, Tick}
use Rattle.worker_core.specs.declared.events.AgentEvent.TheVariants.{Abandon}
use Rattle.worker_core.specs.Kept.{admit_answer, answer_of, claim_answer, delete_answer, end_answer}
use Rattle.worker_core.specs.Kept.{grant_answer, grant_of, refusal_of}
use Rattle.worker_core.specs.Laws.{Gives}
use Rattle.worker_core.specs.Nodes.{NodeState, NodeStep, kept_of, slots_of}
use Rattle.worker_core.specs.Slots.{holder_of, place_of}

module _ (uid : List ℕ) (number : ℕ) (request : Request) where
  admit_silent : (r : Option NodeRefusal) → admit_answer r ≡ Given uid number request → ⊥
  admit_silent None e = cc
  admit_silent (Some refusal) e = cc

  delete_silent : (place : Option ℕ) → delete_answer place ≡ Given uid number request → ⊥
  delete_silent None e = cc
  delete_silent (Some place) e = cc

  end_silent : (place : Option ℕ) → end_answer place ≡ Given uid number request → ⊥
  end_silent None e = cc
  end_silent (Some place) e = cc

  tick_silent : (b : Bool) → (if b then Refused ClockBack else Done) ≡ Given uid number request → ⊥
  tick_silent true e = cc
  tick_silent false e = cc

-- the answer's number is the request's
numbered_so : (uid : List ℕ) (number : ℕ) (request : Request) (g : Option Grant)
    → grant_answer g ≡ Given uid number request → number ≡ request.id
numbered_so uid number request None e = absurd cc
numbered_so uid number request (Some grant) e = let same : grant.request ≡ request = cc in
    let its : grant.request.id ≡ number = cc in sym its ∙ (λ i. (same i).id)

claim_numbered : (node : NodeState) (uid : List ℕ) (number : ℕ) (request : Request) (h : Option ℕ)
    → claim_answer (kept_of node) h ≡ Given uid number request → number ≡ request.id
claim_numbered node uid number request None e = numbered_so uid number request (grant_of (kept_of node)) e
claim_numbered node uid number request (Some place) e = absurd cc

record IsAsked (event : AgentEvent) (number : ℕ) (request : Request) : Type 0 where
  pub worker : ℕ
  pub event_is : event ≡ Claim worker
  pub number_is : number ≡ request.id

by_event : (old : NodeState) (event : AgentEvent) (uid : List ℕ) (number : ℕ) (request : Request)
    → answer_of (kept_of old) event ≡ Given uid number request → IsAsked event number request
by_event old (Admit pod) uid number request e =
    absurd (admit_silent uid number request (refusal_of (kept_of old) pod) e)
by_event old (Delete its) uid number request e =
    absurd (delete_silent uid number request (place_of its (slots_of old)) e)
by_event old (Claim worker) uid number request e =
    record {
      worker = worker;
      event_is = refl;
      number_is =
          claim_numbered old uid number request (holder_of worker (slots_of old)) e;
    }
by_event old (Report worker reported) uid number request e =
    absurd (end_silent uid number request (holder_of worker (slots_of old)) e)
by_event old (Tick now) uid number request e =
    absurd (tick_silent uid number request (nat_lt now old.moment) e)
by_event old (Abandon worker) uid number request e =
    absurd (end_silent uid number request (holder_of worker (slots_of old)) e)

pub asked : (old : NodeState) (event : AgentEvent) (answer : Answer) (new : NodeState)
    → NodeStep old event answer new
    → (uid : List ℕ) (number : ℕ) (request : Request) → answer ≡ Given uid number request
    → (worker : ℕ) × Gives worker uid request
    (record { old = old; event = event; answer = answer; new = new })
asked old event answer new (inl taken) uid number request said =
    let is : IsAsked event number request =
    by_event old event uid number request (sym taken.answer_is ∙ said) in
    (is.worker, record { event_is = is.event_is; given = said ∙ (λ i. Given uid (is.number_is i) request) })
asked old event answer new (inr lacks) uid number request said =
    let differ : Given uid number request ≡ Refused Memory = sym said ∙ lacks.answer_is in
    absurd cc
