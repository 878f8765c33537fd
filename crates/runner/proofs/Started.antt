-- Rounds visit each cell that may run.
use Rattle.std.proofs.Common.{◌≡◌, ◌≢◌, inl, inr, ℕ, ◌==◌, ◌%◌, Bool, true, false, cond, List, ◌∷◌, [], refl}
use Rattle.std.proofs.Common.{Option, None, Some, IsSome, sym, ap, subst, ◌∙◌, if◌then◌else◌, not}
use Rattle.std.proofs.lemmas.Bool.{eq-eqb, eqb-true}
use Rattle.bpf_code.specs.declared.insn.Insn.{Insn}
use Rattle.cri_msgs.specs.declared.calls.Call.{Call}
use Rattle.cri_msgs.specs.declared.calls.Call.TheVariants.{RunPodSandbox, StopPodSandbox, RemovePodSandbox}
use Rattle.cri_msgs.specs.declared.calls.Call.TheVariants.{CreateContainer, StartContainer, StopContainer}
use Rattle.cri_msgs.specs.declared.calls.Call.TheVariants.{RemoveContainer, ContainerStatus, ListContainers}
use Rattle.cri_msgs.specs.declared.calls.Call.TheVariants.{ContainerStatuses}
use Rattle.cri_msgs.specs.declared.replies.Answer.{Answer}
use Rattle.cri_msgs.specs.declared.replies.Answer.TheVariants.{Container, Done, Refused, Status, Statuses}
use Rattle.cri_msgs.specs.declared.replies.Answer.TheVariants as answers
use Rattle.runtime_cell.specs.Cell.{Cell}
use Rattle.registry.specs.declared.registry.Registry.{Registry}
use Rattle.registry.specs.Kept.{IsNextIn, home_in}
use Rattle.registry.specs.Runtime.{In}
use Rattle.runtime_history.specs.declared.event.Seen.{Seen}
use Rattle.runtime_history.specs.History.{Looks}
use Rattle.runtime_history.specs.Agreed.{MayRun, with_started, without}
use Rattle.runtime_history.specs.Sandboxes.{Removes, if_done, started_by}
use Rattle.runner.specs.Labelled.{AreDue, Visited, of_share, visited}
use Rattle.runner.specs.Rounds.{IsNotPassed, IsOwn}

some_here : (b : Bool) (x : List ℕ) (o : Option (List ℕ)) → b ≡ true → IsSome (if b then Some x else o)
some_here true x o is = refl
some_here false x o is = absurd cc

some_still : (b : Bool) (x : List ℕ) (o : Option (List ℕ)) → IsSome o → IsSome (if b then Some x else o)
some_still true x o some = refl
some_still false x o some = some

-- a cell that was started is kept
pub due_more : (ids : List ℕ) (id : ℕ) (old new : Visited) (uid : List ℕ) → AreDue ids old
    → (new.lacks ≡ false → old.lacks ≡ false)
    → (new.lacks ≡ false → (i : ℕ) → home_in new.homes i
    ≡ (if id == i then Some uid else home_in old.homes i))
    → AreDue (with_started (Some id) ids) new
due_more ids id old new uid due lacks kept none i (inl here) = subst IsSome (sym (kept none i))
    (some_here (id == i) uid (home_in old.homes i) (eq-eqb id i (sym here)))
due_more ids id old new uid due lacks kept none i (inr there) = subst IsSome (sym (kept none i))
    (some_still (id == i) uid (home_in old.homes i) (due (lacks none) i there))

left_in : (i x : ℕ) (xs ys : List ℕ) (id : ℕ) (test : Bool) → (id == x) ≡ test
    → (In i ys → In i xs × ((id == i) ≡ false)) → In i (cond (not test) (x ∷ ys) ys)
    → In i (x ∷ xs) × ((id == i) ≡ false)
left_in i x xs ys id true is rest at = let more = rest at in (inr more.0, more.1)
left_in i x xs ys id false is rest (inl here) = (inl here, ap (λ (n : ℕ). id == n) here ∙ is)
left_in i x xs ys id false is rest (inr there) = let more = rest there in (inr more.0, more.1)

in_left : (id : ℕ) (ids : List ℕ) (i : ℕ) → In i (without id ids) → In i ids × ((id == i) ≡ false)
in_left id [] i at = absurd at
in_left id (x ∷ xs) i at = left_in i x xs (without id xs) id (id == x) refl (in_left id xs i) at

false_true : (b : Bool) → b ≡ false → b ≡ true → ⊥
false_true b is not = cc

-- the ids without one: some of these, and not this one
pub still_in : (id : ℕ) (ids left : List ℕ) → left ≡ without id ids → (i : ℕ) → In i left → In i ids
still_in id ids left is i at = (in_left id ids i (subst (λ (l : List ℕ). In i l) is at)).0

pub not_in : (id : ℕ) (ids left : List ℕ) → left ≡ without id ids → (i : ℕ) → In i left → i ≢ id
not_in id ids left is i at same = false_true (id == i)
    (in_left id ids i (subst (λ (l : List ℕ). In i l) is at)).1 (eq-eqb id i (sym same))

not_here : (b : Bool) (o : Option (List ℕ)) → b ≡ false → IsSome o → IsSome (if b then None else o)
not_here true o is some = absurd cc
not_here false o is some = some

-- a cell that is over is not kept
pub due_less : (ids : List ℕ) (id : ℕ) (old new : Visited) → AreDue ids old → new.lacks ≡ old.lacks
    → ((i : ℕ) → home_in new.homes i ≡ (if id == i then None else home_in old.homes i))
    → AreDue (without id ids) new
due_less ids id old new due lacks kept none i at =
    let left = in_left id ids i at in
    subst IsSome (sym (kept i)) (not_here (id == i) (home_in old.homes i) left.1
    (due (sym lacks ∙ none) i left.0))

visits : (lacks : Bool) (homes : List (ℕ × List ℕ)) (due : Visited) (id : ℕ) → due.lacks ≡ lacks
    → IsSome (home_in homes id) → (due.lacks ≡ false → IsSome (home_in due.homes id))
    → IsSome (home_in (if lacks then homes else due.homes) id)
visits true homes due id is home kept = home
visits false homes due id is home kept = kept is

pub may_be_visited : (r : Registry) (started : List ℕ) (due : Visited) → AreDue started due → (id : ℕ)
    → MayRun r started id → IsSome (home_in (visited r.homes due) id)
may_be_visited r started due kept id may = visits due.lacks r.homes due id refl
    (subst IsSome (sym may.1.1.home) refl) (λ none. kept none id may.0)

pub looks_for : (b : Option (List Insn)) (old new : Seen) (P Q : ℕ → Type 0) → ((id : ℕ) → P id → Q id)
    → Looks b old P new → Looks b old Q new
looks_for b old new P Q each looks = record {
  goes_on = looks.goes_on;
  own = looks.own;
  links = looks.links;
  run = looks.run;
  tell = looks.tell;
  each = λ id runs. each id (looks.each id runs);
}

in_share : {A : Type 0} (own : Bool) (x : Option A) → own ≡ true → IsSome x → IsSome (if own then x else None)
in_share true x is some = some
in_share false x is some = absurd cc

of_own : {A : Type 0} (own : Bool) (x : Option A) → IsSome (if own then x else None) → own ≡ true
of_own true x some = refl
of_own false x some = absurd cc

not_both : {A : Type 0} (o : Option A) → o ≡ None → IsSome o → ⊥
not_both None none some = cc
not_both (Some x) none some = cc

module _ (runner runners : ℕ) (home : ℕ → Option (List ℕ)) where
  shared : (id : ℕ) → id % runners ≡ runner → IsSome (home id) → IsSome (of_share runner runners home id)
  shared id own some = in_share (id % runners == runner) (home id) (eq-eqb (id % runners) runner own) some

  pub not_passed : (above : ℕ) (r : Option ℕ) → IsNextIn (of_share runner runners home) above r → (id : ℕ)
      → IsSome (home id) → IsNotPassed runner runners above r id
  not_passed above None next id some = λ after own.
      not_both (of_share runner runners home id) (next id after) (shared id own some)
  not_passed above (Some found) next id some = λ after own. next.2 id after (shared id own some)

  pub is_own : (above : ℕ) (r : Option ℕ) → IsNextIn (of_share runner runners home) above r
      → IsOwn runner runners above r
  is_own above None next = tt
  is_own above (Some found) next = (
    next.0,
    eqb-true (found % runners) runner
        (of_own (found % runners == runner) (home found) next.1),
  )

if_none : (answer : Answer) → if_done answer None ≡ None
if_none (Refused refusal) = refl
if_none Done = refl
if_none (Container id) = refl
if_none (Status status) = refl
if_none (answers.List items) = refl
if_none (Statuses items) = refl

-- a removal starts no cell
pub removal_starts : (call : Call) (answer : Answer) (cells : List Cell) → Removes call
    → started_by call answer cells ≡ None
removal_starts (RemovePodSandbox uid) answer cells removes = if_none answer
removal_starts (RunPodSandbox uid) answer cells removes = absurd removes
removal_starts (StopPodSandbox uid grace) answer cells removes = absurd removes
removal_starts (CreateContainer key image choice) answer cells removes = absurd removes
removal_starts (StartContainer key) answer cells removes = absurd removes
removal_starts (StopContainer key grace) answer cells removes = absurd removes
removal_starts (RemoveContainer key) answer cells removes = absurd removes
removal_starts (ContainerStatus key) answer cells removes = absurd removes
removal_starts (ListContainers uid) answer cells removes = absurd removes
removal_starts (ContainerStatuses uid) answer cells removes = absurd removes
