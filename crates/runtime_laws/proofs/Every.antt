-- The laws of all that happened in a run.
use Rattle.std.proofs.Common.{◌≡◌, inl, inr, ℕ, zero, suc, List, [], ◌∷◌, ◌++◌, length, slice_get, Option}
use Rattle.std.proofs.Common.{Some, None, Bool, true, refl, sym, ap, subst, ◌∙◌}
use Rattle.std.specs.Prelude.{◌⊎◌, ◌↔◌, IsTrue}
use Rattle.action.specs.declared.verdict.Verdict.{Verdict}
use Rattle.action.specs.Verdict.{performs_of}
use Rattle.bpf_code.specs.declared.insn.Insn.{Insn}
use Rattle.call_data.specs.declared.sys_call.SysCall.{SysCall}
use Rattle.verdict.specs.Stack.{IsJudged}
use Rattle.cri_msgs.specs.declared.keys.Key.{Key}
use Rattle.runtime_cell.specs.declared.calls.JudgedCall.{JudgedCall}
use Rattle.runtime_cell.specs.declared.cell.Did.{Did}
use Rattle.runtime_cell.specs.declared.cell.State.TheVariants.{Exited}
use Rattle.runtime_cell.specs.Cell.{Cell, FollowsScript, Making, Steps, filters_of, killed, started}
use Rattle.runtime_cell.specs.Laws.{IsAdded, IsLater, TakesUp}
use Rattle.runtime_cell.specs.Outcome.{entry_of}
use Rattle.runtime_laws.specs.Laws.{MakesAt, Performed, RunLaws, Seen, TookUp, TookUpAt}
use Rattle.registry.specs.Runtime.{In, id_of, slot_of}
use Rattle.registry.specs.Runtime.Slot.{Free, There}
use Rattle.runtime_laws.specs.Runs.{Event, Happens, IsRun, Link}
use Rattle.runtime_laws.specs.Runs.Event.{Stepped}
use Rattle.runtime_laws.proofs.Slots.{CellGoes, keeps_making}
use Rattle.runtime_laws.proofs.Slots.CellGoes.{stays, starts, ends, steps}
use Rattle.runtime_laws.proofs.Goes.{IsMadeIn, step_reaches}
use Rattle.runtime_laws.proofs.Seen.{Grows, LinkHolds, each_holds, old_seen, one_id, seen_both, seen_by}

-- the laws of one cell: its script is followed, and each call is judged by all its filters
pub record Follows : Type 0 where
  pub started : (c : Cell) → FollowsScript c → FollowsScript (started c)
  pub stepped : (old : Cell) (did : Did) (new : Cell) → FollowsScript old → Steps old did new
      → FollowsScript new
  pub killed : (c : Cell) (code : ℕ) → FollowsScript c → FollowsScript (killed code c)

pub record Judges : Type 0 where
  pub taken : (old : Cell) (did : Did) (new : Cell) (call : SysCall) → Steps old did new → TakesUp old call
      → IsAdded old new call
  pub added : (old : Cell) (did : Did) (new : Cell) → Steps old did new
      → (new.entries ≡ old.entries) ⊎ ((call : SysCall) × TakesUp old call)
  pub start_binds : (c : Cell) (call : SysCall) (alone together : Verdict)
      → IsJudged c.making.stack call alone → IsJudged (filters_of c) call together
      → IsTrue (performs_of together.action) → IsTrue (performs_of alone.action)
  pub one : (stack : List (List Insn)) (call : SysCall) (verdict other : Verdict)
      → IsJudged stack call verdict → IsJudged stack call other → verdict ≡ other

-- the origin of a cell's making
abbrev pub WasMade : Option (List Insn) → List Link → Key → Making → Type 0
WasMade baseline ls key making = (l : Link) × In l ls × MakesAt l key making × (l.old.baseline ≡ baseline)

was_made : (baseline : Option (List Insn)) (ls : List Link) → IsRun baseline ls → (key : Key) (l : Link)
    → In l ls → (cell : Cell) → slot_of l.old key ≡ Free → IsMadeIn l.old l.event l.new key cell
    → WasMade baseline ls key cell.making
was_made baseline ls run key l i cell free made = (
  l,
  i,
  record {
    image = made.image;
    choice = made.choice;
    files = made.files;
    id = _;
    event = made.event_is;
    from =
        made.is.from;
    was_free = free;
  },
  (each_holds baseline ls run l i).base,
)

pub made_from : (baseline : Option (List Insn)) (ls : List Link) → IsRun baseline ls
    → (key : Key) (cell : Cell) → Seen ls key cell → WasMade baseline ls key cell.making
made_from baseline ls run key cell seen =
    seen_by baseline (λ c. WasMade baseline ls key c.making) key ls run (was_made baseline ls run key)
    (λ l i before c there goes was. subst (WasMade baseline ls key) (sym (keeps_making l.event before c goes))
    was) cell seen

follows_goes : Follows → (event : Event) (old new : Cell) → CellGoes event old new → FollowsScript old
    → FollowsScript new
follows_goes laws event old new (stays e) follows = subst FollowsScript (sym e) follows
follows_goes laws event old new (starts e) follows = subst FollowsScript (sym e) (laws.started old follows)
follows_goes laws event old new (ends code e) follows =
    subst FollowsScript (sym e) (laws.killed old code follows)
follows_goes laws event old new (steps did e s) follows = laws.stepped old did new follows s

pub follows : Follows → (baseline : Option (List Insn)) (ls : List Link) → IsRun baseline ls
    → (key : Key) (cell : Cell) → Seen ls key cell → FollowsScript cell
follows laws baseline ls run key cell seen =
    seen_by baseline FollowsScript key ls run (λ l i c free made. made.is.follows)
    (λ l i before c there goes was. follows_goes laws l.event before c goes was) cell seen

pub one_making : Grows → (baseline : Option (List Insn)) (ls : List Link) → IsRun baseline ls
    → (key : Key) (cell other : Cell) → Seen ls key cell → Seen ls key other → cell.making ≡ other.making
one_making grows baseline ls run key cell other seen there =
    elim (seen_both grows baseline key cell other ls run seen there) [
      | inl later ↦ sym later.making
      | inr later ↦ later.making
    ]

one_end : (c d : Cell) (code code' : ℕ) (by by' : Bool) → IsLater c d → c.state ≡ Exited code by
    → d.state ≡ Exited code' by' → code ≡ code'
one_end c d code code' by by' later is then =
    let same : Exited code' by' ≡ Exited code by = sym then
    ∙ ap (λ (x : Cell). x.state) (later.exit code by is) ∙ is in
    cc

pub one_exit : Grows → (baseline : Option (List Insn)) (ls : List Link) → IsRun baseline ls
    → (key : Key) (cell other : Cell) (code code' : ℕ) (by by' : Bool) → Seen ls key cell → Seen ls key other
    → cell.state ≡ Exited code by → other.state ≡ Exited code' by' → code ≡ code'
one_exit grows baseline ls run key cell other code code' by by' seen there is then =
    elim (seen_both grows baseline key cell other ls run seen there) [
      | inl later ↦ one_end cell other code code' by by' later is then
      | inr later ↦ sym (one_end other cell code' code by' by later then is)
    ]

-- the last entry of a record, and those before it
entry_last : (xs : List JudgedCall) (e : JudgedCall) (place : ℕ) (x : JudgedCall)
    → slice_get (xs ++ e ∷ []) place ≡ Some x
    → (slice_get xs place ≡ Some x) ⊎ ((place ≡ length xs) × (x ≡ e))
entry_last [] e zero x is = let same : e ≡ x = cc in inr (refl, sym same)
entry_last [] e (suc place) x is = absurd cc
entry_last (y ∷ ys) e zero x is = inl is
entry_last (y ∷ ys) e (suc place) x is = elim (entry_last ys e place x is) [
  | inl there ↦ inl there
  | inr (at, same) ↦ inr (ap suc at, same)
]

entry_end : (xs : List JudgedCall) (e : JudgedCall) → slice_get (xs ++ e ∷ []) (length xs) ≡ Some e
entry_end [] e = refl
entry_end (y ∷ ys) e = entry_end ys e

-- each performed entry was taken up
abbrev pub IsShown : List Link → Key → Cell → Type 0
IsShown ls key cell = (place : ℕ) (entry : JudgedCall) → slice_get cell.entries place ≡ Some entry
    → entry.performed ≡ true → TookUp ls key place entry.call

same_shown : (ls : List Link) (key : Key) (old new : Cell) → new.entries ≡ old.entries → IsShown ls key old
    → IsShown ls key new
same_shown ls key old new same shown place entry stands performed =
    shown place entry (subst (λ es. slice_get es place ≡ Some entry) same stands) performed

took_up : (ls : List Link) (key : Key) (l : Link) → In l ls → (old new : Cell) → slot_of l.old key ≡ There old
    → (did : Did) → l.event ≡ Stepped (id_of old) (Some did) → (call : SysCall) → TakesUp old call
    → IsAdded old new call → IsShown ls key old → IsShown ls key new
took_up ls key l i old new there did event call takes adds shown place entry stands performed =
    elim (entry_last old.entries (entry_of call adds.verdict) place entry
    (subst (λ es. slice_get es place ≡ Some entry) adds.entries stands)) [
      | inl before ↦ shown place entry before performed
      | inr (at, is) ↦
          subst (λ c. TookUp ls key place c) (ap (λ (e : JudgedCall). e.call) (sym is)) (
            l,
            i,
            record {
              cell = old;
              there = there;
              did = did;
              event = event;
              takes = takes;
              place_is = at;
              verdict = adds.verdict;
              judged = adds.judged;
              allowed = ap (λ (e : JudgedCall). e.performed) (sym is) ∙ performed;
            },
          )
    ]

shown_goes : Judges → (ls : List Link) (key : Key) (l : Link) → In l ls → (old new : Cell)
    → slot_of l.old key ≡ There old → CellGoes l.event old new → IsShown ls key old → IsShown ls key new
shown_goes laws ls key l i old new there (stays e) shown =
    same_shown ls key old new (ap (λ (c : Cell). c.entries) e) shown
shown_goes laws ls key l i old new there (starts e) shown =
    same_shown ls key old new (ap (λ (c : Cell). c.entries) e) shown
shown_goes laws ls key l i old new there (ends code e) shown =
    same_shown ls key old new (ap (λ (c : Cell). c.entries) e) shown
shown_goes laws ls key l i old new there (steps did event s) shown = elim (laws.added old did new s) [
  | inl same ↦ same_shown ls key old new same shown
  | inr (call, takes) ↦ took_up ls key l i old new there did event call takes
      (laws.taken old did new call s takes) shown
]

none_shown : (ls : List Link) (key : Key) (cell : Cell) → cell.entries ≡ [] → IsShown ls key cell
none_shown ls key cell none place entry stands performed =
    let never : None ≡ Some entry = subst (λ es. slice_get es place ≡ Some entry) none stands in
    absurd cc

pub shown : Judges → (baseline : Option (List Insn)) (ls : List Link) → IsRun baseline ls
    → (key : Key) (cell : Cell) → Seen ls key cell → IsShown ls key cell
shown laws baseline ls run key cell seen =
    seen_by baseline (IsShown ls key) key ls run (λ l i c free made.
    none_shown ls key c (ap (λ (x : Cell). x.entries) made.is.fresh))
    (λ l i before c there goes was. shown_goes laws ls key l i before c there goes was) cell seen

took_performed : Judges → (ls : List Link) (key : Key) (place : ℕ) (call : SysCall) (l : Link) → In l ls
    → (took : TookUpAt l key place call) (later : Cell) → slot_of l.new key ≡ There later
    → IsAdded took.cell later call → Performed ls key place call
took_performed laws ls key place call l i took later there adds = record {
  cell = later;
  seen = (l, i, there);
  entry = entry_of call adds.verdict;
  stands = ap (λ es. slice_get es place) adds.entries
      ∙ ap (slice_get (took.cell.entries ++ entry_of call adds.verdict ∷ [])) took.place_is
      ∙ entry_end took.cell.entries (entry_of call adds.verdict);
  is = refl;
  performed = ap (λ (v : Verdict). performs_of v.action)
      (laws.one (filters_of took.cell) call adds.verdict took.verdict adds.judged took.judged) ∙ took.allowed;
}

pub confined : Judges → (baseline : Option (List Insn)) (ls : List Link) → IsRun baseline ls
    → (key : Key) (place : ℕ) (call : SysCall) → Performed ls key place call ↔ TookUp ls key place call
confined laws baseline ls run key place call = (
  λ p. subst (TookUp ls key place) p.is (shown laws baseline ls run key p.cell p.seen place p.entry p.stands
      p.performed),
  λ (l, i, took).
      let holds : LinkHolds baseline l = each_holds baseline ls run l i in
      let happens : Happens l.old (Stepped (id_of took.cell) (Some took.did)) l.new =
      subst (λ e. Happens l.old e l.new) took.event holds.happens in
      let reaches = step_reaches l.old took.did l.new holds.lasts key took.cell took.there happens in
      took_performed laws ls key place call l i took reaches.0 reaches.1
      (laws.taken took.cell took.did reaches.0 call reaches.2 took.takes),
)

pub start_binds : Grows → Judges → (baseline : Option (List Insn)) (ls : List Link) → IsRun baseline ls
    → (key : Key) (cell : Cell) (place : ℕ) (entry : JudgedCall) (alone : Verdict) → Seen ls key cell
    → slice_get cell.entries place ≡ Some entry → entry.performed ≡ true
    → IsJudged cell.making.stack entry.call alone → IsTrue (performs_of alone.action)
start_binds grows laws baseline ls run key cell place entry alone seen stands performed judged =
    let (l, i, took) = shown laws baseline ls run key cell seen place entry stands performed in
    let same : took.cell.making ≡ cell.making =
    one_making grows baseline ls run key took.cell cell
    (old_seen baseline ls run key took.cell l i took.there) seen in
    laws.start_binds took.cell entry.call alone took.verdict
    (subst (λ (m : Making). IsJudged m.stack entry.call alone) (sym same) judged) took.judged took.allowed

pub run_laws : Grows → Follows → Judges → (baseline : Option (List Insn)) (ls : List Link) → IsRun baseline ls
    → RunLaws baseline ls
run_laws grows follow judge baseline ls run = record {
  confined = confined judge baseline ls run;
  start_binds = start_binds grows judge baseline ls run;
  one_making = one_making grows baseline ls run;
  made_from = made_from baseline ls run;
  follows = follows follow baseline ls run;
  one_id = λ key other cell its. one_id baseline key other cell its ls run;
  one_exit = one_exit grows baseline ls run;
}
