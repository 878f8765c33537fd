-- What stays true in every run of a node.
use Rattle.std.proofs.Common.{◌≡◌, ◌⊎◌, inl, inr, ℕ, ◌≤◌, Bool, true, false, ◌||◌, List, [], ◌∷◌, Option}
use Rattle.std.proofs.Common.{Some, None, slice_get, refl, sym, ◌∙◌, ap, subst, arith}
use Rattle.std.proofs.lemmas.Slice.Eq.{bytes_eq-Decides}
use Rattle.std.specs.Str.{bytes_eq}
use Rattle.manifest.specs.declared.pods.Pod.{Pod}
use Rattle.cri_msgs.specs.declared.calls.Call.{Call}
use Rattle.cri_msgs.specs.declared.calls.Request.{Request}
use Rattle.worker_pod.specs.declared.settings.Outcome.{Outcome}
use Rattle.worker_pod.specs.declared.settings.Settings.{Settings}
use Rattle.cri_msgs.specs.Calls.{uid_of}
use Rattle.worker_pod.specs.Laws.{AreNumbered, AreOf, IsNumberedIn}
use Rattle.worker_pod.specs.Next.{next_of}
use Rattle.worker_pod.specs.Past.{Claimed, Kept, Past, held_of, read_off}
use Rattle.worker_core.specs.declared.answers.Answer.{Answer}
use Rattle.worker_core.specs.declared.answers.Answer.TheVariants.{Done, Claimed as Given, Refused}
use Rattle.worker_core.specs.declared.answers.NodeRefusal.{NodeRefusal}
use Rattle.worker_core.specs.declared.answers.NodeRefusal.TheVariants.{Memory}
use Rattle.worker_core.specs.declared.claims.Grant.{Grant}
use Rattle.worker_core.specs.declared.events.AgentEvent.{AgentEvent}
use Rattle.worker_core.specs.declared.events.AgentEvent.TheVariants.{Admit, Claim}
use Rattle.worker_core.specs.declared.slots.Held.{Held}
use Rattle.worker_core.specs.Kept.{admit_answer, answer_of, refusal_of}
use Rattle.worker_core.specs.Known.{is_known}
use Rattle.worker_core.specs.Laws.{Admits, AdmitsUid, Among, Ends, EndsBy, Gives, Happened, IsNodeRun}
use Rattle.worker_core.specs.Laws.{NodeLink, node_now, state_of}
use Rattle.worker_core.specs.Nodes.{NodeState, NodeStep, OnNode, admit_node, claim_node, empty_node}
use Rattle.worker_core.specs.Nodes.{give_node, kept_of, next_node, past_ended, pod_claimed, pod_deleted}
use Rattle.worker_core.specs.Nodes.{pod_ended, slots_of, with_given}
use Rattle.worker_core.specs.Slots.{holder_of}
use Rattle.worker_core.proofs.Grants.{IsGiven, given_is, pod_is}
use Rattle.worker_core.proofs.Idle.{idle_holds_none}
use Rattle.worker_core.proofs.Moves.{Came, Goes, IsFresh, Moves, WasEnded, WasGiven, moves, unknown_pod}

-- by cases of what happened to a pod
by_goes : (old : NodeState) (event : AgentEvent) (answer : Answer) (p new : OnNode) (P : OnNode → Type 0)
    → P p → P (pod_deleted p)
    → ((g : WasGiven old event answer p new)
    → P (pod_claimed (record { worker = g.worker; request = g.request }) p))
    → ((e : WasEnded old event answer p new) → P (pod_ended old.moment e.how p))
    → Goes old event answer p new → P new
by_goes old event answer p new P same deleted given ended goes =
    elim goes [
      | inl here ↦ elim here [ inl e ↦ subst P (sym e) same | inr e ↦ subst P (sym e) deleted ]
      | inr held ↦ elim held [ inl g ↦ subst P (sym g.is) (given g) | inr e ↦ subst P (sym e.is) (ended e) ]
    ]

ended_pod : (now : ℕ) (how : Outcome) (past : Past) (h : Option Held)
    → (past_ended now how past h).pod ≡ past.pod
ended_pod now how past None = refl
ended_pod now how past (Some held) = refl

pod_same : (old : NodeState) (event : AgentEvent) (answer : Answer) (p new : OnNode)
    → Goes old event answer p new → new.past.pod ≡ p.past.pod
pod_same old event answer p new = by_goes old event answer p new (λ (n : OnNode).
    n.past.pod ≡ p.past.pod) refl refl (λ g. refl) (λ e. ended_pod old.moment e.how p.past p.held)

-- what an admission implies
pub admits_is : (old : NodeState) (event : AgentEvent) (answer : Answer) (new : NodeState)
    → NodeStep old event answer new → (pod : Pod) → event ≡ Admit pod → answer ≡ Done
    → (is_known pod.uid old.admitted ≡ false) × (new.admitted ≡ pod.uid ∷ old.admitted)
admits_is old event answer new (inl taken) pod is done =
    by_refusal (refusal_of (kept_of old) pod) refl
    (sym done ∙ taken.answer_is ∙ ap (answer_of (kept_of old)) is)
    (taken.new_is ∙ ap (next_node old) is)
  where
    by_refusal : (r : Option NodeRefusal) → refusal_of (kept_of old) pod ≡ r → Done ≡ admit_answer r
        → new ≡ admit_node old pod r
        → (is_known pod.uid old.admitted ≡ false) × (new.admitted ≡ pod.uid ∷ old.admitted)
    by_refusal None e said is = (unknown_pod old pod e, ap (λ (n : NodeState). n.admitted) is)
    by_refusal (Some refusal) e said is = absurd cc
admits_is old event answer new (inr lacks) pod is done =
    let differ : Done ≡ Refused Memory = sym done ∙ lacks.answer_is in
    absurd cc

-- what a given claim implies
pub record GivesIs (old : NodeState) (worker : ℕ) (uid : List ℕ) (request : Request)
    (new : NodeState) : Type 0 where
  pub grant : Grant
  pub given : IsGiven (kept_of old) worker grant uid request
  pub new_is : new ≡ with_given old worker grant

pub gives_is : (old : NodeState) (event : AgentEvent) (answer : Answer) (new : NodeState)
    → NodeStep old event answer new → (worker : ℕ) (uid : List ℕ) (request : Request)
    → event ≡ Claim worker → answer ≡ Given uid request.id request → GivesIs old worker uid request new
gives_is old event answer new (inl taken) worker uid request is said =
    let g : (grant : Grant) × IsGiven (kept_of old) worker grant uid request =
    given_is (kept_of old) worker uid request.id request (ap (answer_of (kept_of old)) (sym is)
    ∙ sym taken.answer_is ∙ said) in
    record {
      grant = g.0;
      given = g.1;
      new_is = taken.new_is ∙ ap (next_node old) is
          ∙ ap (claim_node old worker) g.1.idle
          ∙ ap (give_node old worker) g.1.grant_of_it;
    }
gives_is old event answer new (inr lacks) worker uid request is said =
    let differ : Given uid request.id request ≡ Refused Memory = sym said ∙ lacks.answer_is in
    absurd cc

abbrev IsNumberedNow : Settings → Past → Call → Type 0
IsNumberedNow settings past call = IsNumberedIn past.pod.containers.all
    (read_off past.pod settings past.claims).tracks call

pub record Good (ls : List NodeLink) (node : NodeState) : Type 0 where
  pub of_pod : (at : ℕ) (p : OnNode) → slice_get node.pods at ≡ Some p → AreOf p.past.pod.uid p.past.claims
  pub held_of_pod : (at : ℕ) (p : OnNode) → slice_get node.pods at ≡ Some p → (held : Held)
      → p.held ≡ Some held → uid_of held.request.call ≡ p.past.pod.uid
  -- creations are numbered by the runs of their containers, when they are given and when their claims end
  pub numbered : (at : ℕ) (p : OnNode) → slice_get node.pods at ≡ Some p
      → AreNumbered node.settings p.past.pod p.past.claims
  pub held_numbered : (at : ℕ) (p : OnNode) → slice_get node.pods at ≡ Some p → (held : Held)
      → p.held ≡ Some held → IsNumberedNow node.settings p.past held.request.call
  pub known : (at : ℕ) (p : OnNode) → slice_get node.pods at ≡ Some p
      → is_known p.past.pod.uid node.admitted ≡ true
  pub uids : (a b : ℕ) (p q : OnNode) → slice_get node.pods a ≡ Some p → slice_get node.pods b ≡ Some q
      → p.past.pod.uid ≡ q.past.pod.uid → a ≡ b
  pub workers : (a b : ℕ) (p q : OnNode) → slice_get node.pods a ≡ Some p → slice_get node.pods b ≡ Some q
      → (h k : Held) → p.held ≡ Some h → q.held ≡ Some k → h.worker ≡ k.worker → a ≡ b
  pub given : (at : ℕ) (p : OnNode) → slice_get node.pods at ≡ Some p → (held : Held) → p.held ≡ Some held
      → Happened (Gives held.worker p.past.pod.uid held.request) ls
  pub admitted : (at : ℕ) (p : OnNode) → slice_get node.pods at ≡ Some p → Happened (Admits p.past.pod) ls
  pub ended : (at : ℕ) (p : OnNode) → slice_get node.pods at ≡ Some p → (c : Claimed) → Among c p.past.claims
      → Happened (Ends p.past.pod.uid c) ls
  pub heard : (uid : List ℕ) → Happened (AdmitsUid uid) ls → is_known uid node.admitted ≡ true
  pub numbers : (worker : ℕ) (uid : List ℕ) (request : Request) → Happened (Gives worker uid request) ls
      → request.id ≤ node.number

good_start : (settings : Settings) → Good [] (empty_node settings)
good_start settings = record {
  of_pod = λ at p e. absurd cc;
  held_of_pod = λ at p e. absurd cc;
  numbered = λ at p e. absurd cc;
  held_numbered = λ at p e. absurd cc;
  known = λ at p e. absurd cc;
  uids = λ a b p q e. absurd cc;
  workers = λ a b p q e. absurd cc;
  given = λ at p e. absurd cc;
  admitted = λ at p e. absurd cc;
  ended = λ at p e. absurd cc;
  heard = λ uid h. absurd h;
  numbers = λ worker uid request h. absurd h;
}

or_first : (a b : Bool) → a ≡ true → (a || b) ≡ true
or_first true b e = refl
or_first false b e = absurd cc

module _
    (calls : (kept : Kept) (now : ℕ) (call : Call) → next_of kept now ≡ Some call
    → uid_of call ≡ kept.pod.uid)
    (creations : (settings : Settings) (past : Past) (now : ℕ) (call : Call) → AreOf past.pod.uid past.claims
    → AreNumbered settings past.pod past.claims
    → next_of (held_of settings past) now ≡ Some call
    → IsNumberedIn past.pod.containers.all (read_off past.pod settings past.claims).tracks call)
    (old : NodeState) (event : AgentEvent) (answer : Answer) (new : NodeState)
    (step : NodeStep old event answer new)
    (ls : List NodeLink) (good : Good ls old)
  where
    abbrev link : NodeLink
    link = record { old = old; event = event; answer = answer; new = new }

    m : Moves old event answer new
    m = moves old event answer new step

    of_ended : (at : ℕ) (p : OnNode) → slice_get old.pods at ≡ Some p → (how : Outcome) (h : Option Held)
        → p.held ≡ h
        → AreOf (past_ended old.moment how p.past h).pod.uid (past_ended old.moment how p.past h).claims
    of_ended at p here how None e = good.of_pod at p here
    of_ended at p here how (Some held) e = (good.held_of_pod at p here held e, good.of_pod at p here)

    of_pod : (at : ℕ) (p : OnNode) → slice_get new.pods at ≡ Some p → AreOf p.past.pod.uid p.past.claims
    of_pod at p here =
        elim (m.came at p here) [
          | inl fresh ↦ subst (λ (n : OnNode). AreOf n.past.pod.uid n.past.claims) (sym fresh.is) tt
          | inr came ↦ by_goes old event answer came.pod p (λ (n : OnNode).
              AreOf n.past.pod.uid n.past.claims)
              (good.of_pod (m.origin at) came.pod came.here) (good.of_pod (m.origin at) came.pod came.here)
              (λ g. good.of_pod (m.origin at) came.pod came.here)
              (λ e. of_ended (m.origin at) came.pod came.here e.how came.pod.held refl)
              came.goes
        ]

    given_uid : (p : OnNode) (g : Request) → next_of (state_of old p) old.moment ≡ Some g.call
        → uid_of g.call ≡ p.past.pod.uid
    given_uid p g due = calls (state_of old p) old.moment g.call due
        ∙ ap (λ (pod : Pod). pod.uid) (pod_is old.settings p.past.pod p.past.claims)

    held_of_pod : (at : ℕ) (p : OnNode) → slice_get new.pods at ≡ Some p → (held : Held) → p.held ≡ Some held
        → uid_of held.request.call ≡ p.past.pod.uid
    held_of_pod at p here =
        elim (m.came at p here) [
          | inl fresh ↦ subst (λ (n : OnNode). (held : Held) → n.held ≡ Some held
              → uid_of held.request.call ≡ n.past.pod.uid) (sym fresh.is) (λ held e. absurd cc)
          | inr came ↦ by_goes old event answer came.pod p (λ (n : OnNode). (held : Held) → n.held ≡ Some held
              → uid_of held.request.call ≡ n.past.pod.uid)
              (good.held_of_pod (m.origin at) came.pod came.here)
              (good.held_of_pod (m.origin at) came.pod came.here)
              (λ g held e.
              let same : ◌≡◌ {A = Held} (record { worker = g.worker; request = g.request }) held = cc in
              ap (λ (h : Held). uid_of h.request.call) (sym same) ∙ given_uid came.pod g.request g.due)
              (λ g held e. absurd cc)
              came.goes
        ]

    numbered_ended : (at : ℕ) (p : OnNode) → slice_get old.pods at ≡ Some p
        → (how : Outcome) (h : Option Held) → p.held ≡ h
        → AreNumbered old.settings (past_ended old.moment how p.past h).pod
        (past_ended old.moment how p.past h).claims
    numbered_ended at p here how None e = good.numbered at p here
    numbered_ended at p here how (Some held) e =
        (good.held_numbered at p here held e, good.numbered at p here)

    numbered : (at : ℕ) (p : OnNode) → slice_get new.pods at ≡ Some p
        → AreNumbered new.settings p.past.pod p.past.claims
    numbered at p here =
        subst (λ (s : Settings). AreNumbered s p.past.pod p.past.claims) (sym m.settings)
        (elim (m.came at p here) [
          | inl fresh ↦ subst (λ (n : OnNode). AreNumbered old.settings n.past.pod n.past.claims)
              (sym fresh.is) tt
          | inr came ↦ by_goes old event answer came.pod p (λ (n : OnNode).
              AreNumbered old.settings n.past.pod n.past.claims)
              (good.numbered (m.origin at) came.pod came.here)
              (good.numbered (m.origin at) came.pod came.here)
              (λ g. good.numbered (m.origin at) came.pod came.here)
              (λ e. numbered_ended (m.origin at) came.pod came.here e.how came.pod.held refl)
              came.goes
        ])

    held_numbered : (at : ℕ) (p : OnNode) → slice_get new.pods at ≡ Some p → (held : Held)
        → p.held ≡ Some held → IsNumberedNow new.settings p.past held.request.call
    held_numbered at p here =
        subst (λ (s : Settings). (held : Held) → p.held ≡ Some held
        → IsNumberedNow s p.past held.request.call) (sym m.settings)
        (elim (m.came at p here) [
          | inl fresh ↦ subst (λ (n : OnNode). (held : Held) → n.held ≡ Some held
              → IsNumberedNow old.settings n.past held.request.call) (sym fresh.is) (λ held e. absurd cc)
          | inr came ↦ by_goes old event answer came.pod p (λ (n : OnNode). (held : Held) → n.held ≡ Some held
              → IsNumberedNow old.settings n.past held.request.call)
              (good.held_numbered (m.origin at) came.pod came.here)
              (good.held_numbered (m.origin at) came.pod came.here)
              (λ g held e.
              let same : ◌≡◌ {A = Held} (record { worker = g.worker; request = g.request }) held = cc in
              subst (λ (h : Held). IsNumberedNow old.settings came.pod.past h.request.call) same
              (creations old.settings came.pod.past old.moment g.request.call
              (good.of_pod (m.origin at) came.pod came.here)
              (good.numbered (m.origin at) came.pod came.here) g.due))
              (λ g held e. absurd cc)
              came.goes
        ])

    known : (at : ℕ) (p : OnNode) → slice_get new.pods at ≡ Some p
        → is_known p.past.pod.uid new.admitted ≡ true
    known at p here =
        elim (m.came at p here) [
          | inl fresh ↦
              let uid_is : p.past.pod.uid ≡ fresh.pod.uid = ap (λ (n : OnNode). n.past.pod.uid) fresh.is in
              let a : new.admitted ≡ fresh.pod.uid ∷ old.admitted =
              (admits_is old event answer new step fresh.pod fresh.event_is fresh.done).1 in
              ap (is_known p.past.pod.uid) a ∙ or_first (bytes_eq p.past.pod.uid fresh.pod.uid)
              (is_known p.past.pod.uid old.admitted)
              ((bytes_eq-Decides p.past.pod.uid fresh.pod.uid).1 uid_is)
          | inr came ↦
              let uid_is : p.past.pod.uid ≡ came.pod.past.pod.uid =
              ap (λ (pod : Pod). pod.uid) (pod_same old event answer came.pod p came.goes) in
              ap (λ (u : List ℕ). is_known u new.admitted) uid_is
              ∙ m.known_stays came.pod.past.pod.uid (good.known (m.origin at) came.pod came.here)
        ]

    -- a pod that was there has another uid than one that is admitted
    apart_fresh : (at : ℕ) (p : OnNode) (from : ℕ) (q : OnNode) → IsFresh old event answer at p
        → Came old event answer from q → p.past.pod.uid ≡ q.past.pod.uid → ⊥
    apart_fresh at p from q fresh came e =
        let uid_is : fresh.pod.uid ≡ came.pod.past.pod.uid =
        sym (ap (λ (n : OnNode). n.past.pod.uid) fresh.is) ∙ e
        ∙ ap (λ (pod : Pod). pod.uid) (pod_same old event answer came.pod q came.goes) in
        let differ : false ≡ true = sym fresh.unknown ∙ ap (λ (u : List ℕ). is_known u old.admitted) uid_is
        ∙ good.known from came.pod came.here in
        cc

    uids : (a b : ℕ) (p q : OnNode) → slice_get new.pods a ≡ Some p → slice_get new.pods b ≡ Some q
        → p.past.pod.uid ≡ q.past.pod.uid → a ≡ b
    uids a b p q ea eb e =
        elim (m.came a p ea) [
          | inl fa ↦ elim (m.came b q eb) [
            | inl fb ↦ fa.last ∙ sym fb.last
            | inr cb ↦ absurd (apart_fresh a p (m.origin b) q fa cb e)
          ]
          | inr ca ↦ elim (m.came b q eb) [
            | inl fb ↦ absurd (apart_fresh b q (m.origin a) p fb ca (sym e))
            | inr cb ↦ m.apart a b (good.uids (m.origin a) (m.origin b) ca.pod cb.pod ca.here cb.here
                (ap (λ (pod : Pod). pod.uid) (sym (pod_same old event answer ca.pod p ca.goes)) ∙ e
                ∙ ap (λ (pod : Pod). pod.uid) (pod_same old event answer cb.pod q cb.goes)))
          ]
        ]

    -- whoever holds a pod held it before, or was given it, holding nothing before
    record NowGiven (p : OnNode) (held : Held) : Type 0 where
      request : Request
      given : answer ≡ Given p.past.pod.uid request.id request
      idle : holder_of held.worker (slots_of old) ≡ None

    abbrev HeldCame : OnNode → Held → Type 0
    HeldCame p held = (p.held ≡ Some held) ⊎ NowGiven p held

    held_came : (p n : OnNode) → Goes old event answer p n → (held : Held) → n.held ≡ Some held
        → HeldCame p held
    held_came p n goes =
        elim goes [
          | inl same ↦ elim same [
            | inl e ↦ λ held h. inl (ap (λ (x : OnNode). x.held) (sym e) ∙ h)
            | inr e ↦ λ held h. inl (ap (λ (x : OnNode). x.held) (sym e) ∙ h)
          ]
          | inr other ↦ elim other [
            | inl g ↦ λ held h.
                let some_same : ◌≡◌ {A = Option Held}
                (Some (record { worker = g.worker; request = g.request })) (Some held) =
                ap (λ (x : OnNode). x.held) (sym g.is) ∙ h in
                let same : ◌≡◌ {A = Held} (record { worker = g.worker; request = g.request }) held = cc in
                inr (record {
                  request = g.request;
                  given = g.given;
                  idle =
                      ap (λ (x : Held). holder_of x.worker (slots_of old)) (sym same) ∙ g.idle;
                })
            | inr e ↦ λ held h.
                let none_same : ◌≡◌ {A = Option Held} None (Some held) =
                ap (λ (x : OnNode). x.held) (sym e.is) ∙ h in
                absurd cc
          ]
        ]

    fresh_free : (at : ℕ) (p : OnNode) → IsFresh old event answer at p → (held : Held) → p.held ≡ Some held
        → ⊥
    fresh_free at p fresh held e =
        let differ : ◌≡◌ {A = Option Held} None (Some held) = ap (λ (x : OnNode). x.held) (sym fresh.is)
        ∙ e in
        cc

    workers_came : (a b : ℕ) (p q : OnNode) (ca : Came old event answer a p) (cb : Came old event answer b q)
        (h k : Held) → h.worker ≡ k.worker
        → HeldCame ca.pod h → HeldCame cb.pod k → a ≡ b
    workers_came a b p q ca cb h k e (inl ha) (inl kb) =
        good.workers a b ca.pod cb.pod ca.here cb.here h k ha kb e
    workers_came a b p q ca cb h k e (inl ha) (inr gb) =
        absurd (idle_holds_none old k.worker gb.idle a ca.pod ca.here h ha e)
    workers_came a b p q ca cb h k e (inr ga) (inl kb) =
        absurd (idle_holds_none old h.worker ga.idle b cb.pod cb.here k kb (sym e))
    workers_came a b p q ca cb h k e (inr ga) (inr gb) =
        let both : Given ca.pod.past.pod.uid ga.request.id ga.request
        ≡ Given cb.pod.past.pod.uid gb.request.id gb.request = sym ga.given ∙ gb.given in
        let same : ca.pod.past.pod.uid ≡ cb.pod.past.pod.uid = cc in
        good.uids a b ca.pod cb.pod ca.here cb.here same

    workers : (a b : ℕ) (p q : OnNode) → slice_get new.pods a ≡ Some p → slice_get new.pods b ≡ Some q
        → (h k : Held) → p.held ≡ Some h → q.held ≡ Some k → h.worker ≡ k.worker → a ≡ b
    workers a b p q ea eb h k eh ek e =
        elim (m.came a p ea) [
          | inl fa ↦ absurd (fresh_free a p fa h eh)
          | inr ca ↦ elim (m.came b q eb) [
            | inl fb ↦ absurd (fresh_free b q fb k ek)
            | inr cb ↦ m.apart a b (workers_came (m.origin a) (m.origin b) p q ca cb h k e
                (held_came ca.pod p ca.goes h eh) (held_came cb.pod q cb.goes k ek))
          ]
        ]

    given : (at : ℕ) (p : OnNode) → slice_get new.pods at ≡ Some p → (held : Held) → p.held ≡ Some held
        → Happened (Gives held.worker p.past.pod.uid held.request) (link ∷ ls)
    given at p here =
        elim (m.came at p here) [
          | inl fresh ↦ λ held e. absurd (fresh_free at p fresh held e)
          | inr came ↦ by_goes old event answer came.pod p (λ (n : OnNode). (held : Held) → n.held ≡ Some held
              → Happened (Gives held.worker n.past.pod.uid held.request) (link ∷ ls))
              (λ held e. inr (good.given (m.origin at) came.pod came.here held e))
              (λ held e. inr (good.given (m.origin at) came.pod came.here held e))
              (λ g held e.
              let same : ◌≡◌ {A = Held} (record { worker = g.worker; request = g.request }) held = cc in
              subst (λ (h : Held). Happened (Gives h.worker came.pod.past.pod.uid h.request) (link ∷ ls)) same
              (inl (record { event_is = g.event_is; given = g.given })))
              (λ g held e. absurd cc)
              came.goes
        ]

    admitted : (at : ℕ) (p : OnNode) → slice_get new.pods at ≡ Some p
        → Happened (Admits p.past.pod) (link ∷ ls)
    admitted at p here =
        elim (m.came at p here) [
          | inl fresh ↦ subst (λ (n : OnNode). Happened (Admits n.past.pod) (link ∷ ls)) (sym fresh.is)
              (inl (record { event_is = fresh.event_is; done = fresh.done }))
          | inr came ↦ inr (subst (λ (pod : Pod). Happened (Admits pod) ls)
              (sym (pod_same old event answer came.pod p came.goes))
              (good.admitted (m.origin at) came.pod came.here))
        ]

    -- the claim that ended now, or one that ended before
    ended_now : (at : ℕ) (p : OnNode) → slice_get old.pods at ≡ Some p → (held : Held) (how : Outcome)
        → p.held ≡ Some held → EndsBy event held.worker how → answer ≡ Done
        → (h : Option Held) → p.held ≡ h → (c : Claimed) → Among c (past_ended old.moment how p.past h).claims
        → Happened (Ends (past_ended old.moment how p.past h).pod.uid c) (link ∷ ls)
    ended_now at p here held how by told done None is c among =
        let differ : ◌≡◌ {A = Option Held} None (Some held) = sym is ∙ by in absurd cc
    ended_now at p here held how by told done (Some its) is c (inr among) = inr (good.ended at p here c among)
    ended_now at p here held how by told done (Some its) is c (inl same) =
        let some_same : ◌≡◌ {A = Option Held} (Some held) (Some its) = sym by ∙ is in
        let its_is : held ≡ its = cc in
        subst (λ (d : Claimed). Happened (Ends p.past.pod.uid d) (link ∷ ls)) same (inl (record {
          worker = its.worker;
          held = record { place = at; at = record { pod = p; here = here; of_uid = refl; by = is } };
          told = subst (λ (h : Held). EndsBy event h.worker how) its_is told;
          now = refl;
          done = done;
        }))

    ended : (at : ℕ) (p : OnNode) → slice_get new.pods at ≡ Some p → (c : Claimed) → Among c p.past.claims
        → Happened (Ends p.past.pod.uid c) (link ∷ ls)
    ended at p here =
        elim (m.came at p here) [
          | inl fresh ↦ subst (λ (n : OnNode). (c : Claimed) → Among c n.past.claims
              → Happened (Ends n.past.pod.uid c) (link ∷ ls)) (sym fresh.is) (λ c among. absurd among)
          | inr came ↦ by_goes old event answer came.pod p (λ (n : OnNode). (c : Claimed)
              → Among c n.past.claims → Happened (Ends n.past.pod.uid c) (link ∷ ls))
              (λ c among. inr (good.ended (m.origin at) came.pod came.here c among))
              (λ c among. inr (good.ended (m.origin at) came.pod came.here c among))
              (λ g c among. inr (good.ended (m.origin at) came.pod came.here c among))
              (λ e. ended_now (m.origin at) came.pod came.here e.held e.how e.by e.told e.done came.pod.held
              refl)
              came.goes
        ]

    heard : (uid : List ℕ) → Happened (AdmitsUid uid) (link ∷ ls) → is_known uid new.admitted ≡ true
    heard uid (inr before) = m.known_stays uid (good.heard uid before)
    heard uid (inl now) =
        let a : new.admitted ≡ now.pod.uid ∷ old.admitted =
        (admits_is old event answer new step now.pod now.admits.event_is now.admits.done).1 in
        ap (is_known uid) a ∙ or_first (bytes_eq uid now.pod.uid) (is_known uid old.admitted)
        ((bytes_eq-Decides uid now.pod.uid).1 (sym now.of_uid))

    numbers : (worker : ℕ) (uid : List ℕ) (request : Request)
        → Happened (Gives worker uid request) (link ∷ ls) → request.id ≤ new.number
    numbers worker uid request (inr before) = omega (arith, m.grows, good.numbers worker uid request before)
    numbers worker uid request (inl now) =
        let g : GivesIs old worker uid request new =
        gives_is old event answer new step worker uid request now.event_is now.given in
        let e : new.number ≡ request.id = ap (λ (n : NodeState). n.number) g.new_is
        ∙ ap (λ (r : Request). r.id) g.given.its_request in
        omega (arith, e)

    pub good_step : Good (link ∷ ls) new
    good_step = record {
      of_pod = of_pod;
      held_of_pod = held_of_pod;
      numbered = numbered;
      held_numbered = held_numbered;
      known = known;
      uids = uids;
      workers = workers;
      given = given;
      admitted = admitted;
      ended = ended;
      heard = heard;
      numbers = numbers;
    }

pub good_run : ((kept : Kept) (now : ℕ) (call : Call) → next_of kept now ≡ Some call
    → uid_of call ≡ kept.pod.uid)
    → ((settings : Settings) (past : Past) (now : ℕ) (call : Call) → AreOf past.pod.uid past.claims
    → AreNumbered settings past.pod past.claims
    → next_of (held_of settings past) now ≡ Some call
    → IsNumberedIn past.pod.containers.all (read_off past.pod settings past.claims).tracks call)
    → (settings : Settings) (ls : List NodeLink) → IsNodeRun settings ls → Good ls (node_now settings ls)
good_run calls creations settings [] run = good_start settings
good_run calls creations settings (l ∷ ls) run =
    good_step calls creations l.old l.event l.answer l.new run.1 ls
    (subst (Good ls) (sym run.0) (good_run calls creations settings ls run.2))
