-- Each step of a token keeps the rule.
use Rattle.std.proofs.Common.{◌≡◌, ◌≢◌, ◌⊎◌, inl, inr, ℕ, zero, suc, ◌+◌, ◌≤◌, if◌then◌else◌, List, []}
use Rattle.std.proofs.Common.{◌∷◌, ◌++◌, set}
use Rattle.std.proofs.Common.{Option, Some, None, Bool, true, false, map, refl, sym, ap, ◌∙◌, subst}
use Rattle.std.proofs.Common.{⊎_elim, arith}
use Rattle.std.specs.Str.{bytes_eq}
use Rattle.std.proofs.lemmas.List.{append-nil}
use mathlib.Core.Option.{some, some-ne-none, some-injective}
use lib.ListN.{get_elem?}
use Rattle.atomic_table.specs.Table.{State as Table, keeps, Allows, Enters, Joins, Splits}
use Rattle.atomic_table.proofs.Lists.{at_set, at_snoc}
use Rattle.bpf_code.specs.declared.insn.Insn.{Insn}
use Rattle.cri_msgs.specs.declared.calls.Call.{Call}
use Rattle.cri_msgs.specs.declared.replies.Answer.{Answer}
use Rattle.cri_msgs.specs.Calls.{uid_of}
use Rattle.runtime_cell.specs.declared.cell.Did.{Did}
use Rattle.runtime_cell.specs.Cell.{Cell}
use Rattle.creation.specs.declared.files.FileAnswers.{FileAnswers}
use Rattle.registry.specs.declared.registry.Registry.{Registry}
use Rattle.registry.specs.declared.stage.Stage.{Stage}
use Rattle.registry.specs.declared.stage.Stage.TheVariants as stage
use Rattle.registry.specs.Kept.{MayStepIn}
use Rattle.registry.specs.Runtime.{In, IsKnown, Runtime, Sandbox, empty, id_of}
use Rattle.registry.specs.Serves.{TellsCells}
use Rattle.registry.specs.Stands.{Agrees, AreBound, IsEmptyIn, runtime_of, stages_in}
use Rattle.runtime_core.specs.Stands.{LendsTo}
use Rattle.runtime_laws.specs.Runs.{Happens, Link, now}
use Rattle.runtime_history.specs.declared.event.Event.{Event}
use Rattle.runtime_history.specs.declared.event.Event.TheVariants.{Served, Stepped}
use Rattle.runtime_history.specs.declared.event.Seen.{Seen}
use Rattle.runtime_history.specs.declared.room.View.{View}
use Rattle.runtime_history.specs.History.{IsRunning, named, unseen}
use Rattle.runtime_history.specs.Sandboxes.{IsLive, started_by}
use Rattle.runtime_history.specs.Agreed.{Fits, HasCells, IfCells, IfRegistry, IsOver, Kept}
use Rattle.runtime_history.specs.Agreed.{Looked, MayRun, HasAdded, cells_in}
use Rattle.runtime_history.specs.Agreed.{cells_of, keeper, lists_in, nobody, once, once_of, registries_in}
use Rattle.runtime_history.specs.Agreed.{registry_of, total, view, with_cells, with_registry, with_started}
use Rattle.runtime_history.specs.Agreed.{without, without_cells, without_registry}
use Rattle.runtime_history.proofs.Totals.{alone, fits_set, lists_none, once_apart, once_here}
use Rattle.runtime_history.proofs.Totals.{total_none, total_set}
use Rattle.runtime_history.proofs.Totals.{total_snoc}
use Rattle.registry.proofs.Texts.{text_cases}
use Rattle.runtime_history.proofs.Over.{at_home, in_without, not_running}
use Rattle.runtime_history.proofs.Running.{none_started, served_runs}
use Rattle.runtime_history.proofs.Serving as serving
use Rattle.runtime_history.proofs.Stepping as stepping
use Rattle.runtime_history.proofs.Listing as listing

abbrev pub Holds : Option (List Insn) → Table (Unit {0}) View → Type 0
Holds baseline t = Kept baseline t.views

most : (uid : List ℕ) (c : Option (List ℕ × List Cell)) → once_of uid c ≤ 1
most uid None = omega arith
most uid (Some held) = go (bytes_eq uid held.0)
  where
    go : (b : Bool) → (if b then 1 else 0) ≤ 1
    go true = omega arith
    go false = omega arith

-- the table with the first token
pub begins : (r : Registry) → runtime_of r (λ _. []) ≡ empty r.baseline → AreBound r
    → ((uid : List ℕ) → Agrees r uid []) → Kept r.baseline (keeper r [] ∷ [])
begins r is bound agrees = record {
  log = [];
  links = [];
  run = tt;
  tell = refl;
  registries = omega arith;
  lists = λ uid. omega arith;
  each = each;
}
  where
    fit : Fits (empty r.baseline) [] (keeper r [])
    fit = record {
      registry = (
        record { whole = sym is; bound = bound; agrees = agrees },
        λ id runs. absurd runs.there,
      );
      cells = tt;
      seen = ([], refl);
    }

    each : (by : ℕ) (v : View) → get_elem? (keeper r [] ∷ []) by ≡ some v → Fits (empty r.baseline) [] v
    each zero v e = subst (Fits (empty r.baseline) []) (some-injective _ _ e) fit
    each (suc by) v e = absurd (some-ne-none v (sym e))

-- What an event does to the runtime, by a token that knows these parts of it before and after: what others
-- know stays true.
pub record Goes (s s' : Runtime) (e : Event) (r r' : Option (Registry × List ℕ))
    (c c' : Option (List ℕ × List Cell)) : Type 0 where
  pub happens : Happens s (named e) s'
  pub registry : IfRegistry s' r'
  pub cells : IfCells s' c'
  pub registries : once r' ≤ once r
  pub lists : (uid : List ℕ) → (once_of uid c' ≤ once_of uid c) ⊎ (IsKnown (s.sandbox uid).stage → ⊥)
  pub others_registry : (x : Registry × List ℕ) → once r ≡ 0 → IfRegistry s (Some x)
      → IfRegistry s' (Some x)
  pub others_cells : (uid : List ℕ) (cells : List Cell) → once_of uid c ≡ 0 → HasCells s uid cells
      → HasCells s' uid cells

module _ (baseline : Option (List Insn)) where
  -- another token's view is still true
  module _ (views : List View) (by : ℕ) (log : List Event) (s s' : Runtime) (e : Event)
      (r r' : Option (Registry × List ℕ)) (c c' : Option (List ℕ × List Cell)) (seen : Seen)
      (goes : Goes s s' e r r' c c') (registries : total registries_in views ≤ 1)
      (lists : (uid : List ℕ) → total (lists_in uid) views ≤ 1)
      (at : get_elem? views by ≡ some (view r c seen)) (j : ℕ) (u : View) (apart : j ≢ by)
      (there : get_elem? views j ≡ some u) where
    if_registry : (o : Option (Registry × List ℕ)) → u.registry ≡ o → IfRegistry s o → IfRegistry s' o
    if_registry None is has = tt
    if_registry (Some x) is has = goes.others_registry x
        (alone registries_in views j by u (view r c seen) refl registries there (ap once is)
        (λ same. apart (sym same)) at) has

    if_cells : (o : Option (List ℕ × List Cell)) → u.cells ≡ o → IfCells s o → IfCells s' o
    if_cells None is has = tt
    if_cells (Some held) is has = goes.others_cells held.0 held.1
        (alone (lists_in held.0) views j by u (view r c seen) refl (lists held.0) there
        (ap (once_of held.0) is ∙ once_here held.0 held.1)
        (λ same. apart (sym same)) at) has

    still_fits : Fits s log u → Fits s' (e ∷ log) u
    still_fits fit = record {
      registry = if_registry u.registry refl fit.registry;
      cells = if_cells u.cells refl fit.cells;
      seen = (e ∷ fit.seen.0, ap (λ l. e ∷ l) fit.seen.1);
    }

  -- nobody knows the cells of a sandbox that was never named
  unknown_none : (views : List View) (log : List Event) (s : Runtime) (uid : List ℕ)
      → ((j : ℕ) (u : View) → get_elem? views j ≡ some u → Fits s log u)
      → (IsKnown (s.sandbox uid).stage → ⊥) → total (lists_in uid) views ≡ 0
  unknown_none views log s uid each unknown = total_none (lists_in uid) views (λ j u there.
      lists_none uid u.cells (λ held is same. unknown (subst (λ (t : List ℕ). IsKnown (s.sandbox t).stage)
      (sym same) (subst (IfCells s) is (each j u there).cells).known)))

  -- one token knows something else, and nothing happens
  stays : {views : List View} (kept : Kept baseline views) (by : ℕ) (v w : View)
      → get_elem? views by ≡ some v → registries_in w ≡ registries_in v → w.cells ≡ v.cells
      → Fits (now baseline kept.links) kept.log w → Kept baseline (set views by w)
  stays {views} kept by v w at same cells fit = record {
    log = kept.log;
    links = kept.links;
    run = kept.run;
    tell = kept.tell;
    registries = (let x = total_set registries_in views by v w at in let y = kept.registries in omega arith);
    lists = λ uid. (let x = total_set (lists_in uid) views by v w at in
        let y = ap (once_of uid) cells in let z = kept.lists uid in omega arith);
    each = fits_set (λ j u. Fits (now baseline kept.links) kept.log u) views by w
        (λ j u _ there. kept.each j u there) fit;
  }

  -- an event is added to the history, and one token's view with it
  pub goes_on : (by slots : ℕ) (r r' : Option (Registry × List ℕ)) (c c' : Option (List ℕ × List Cell))
      (seen : Seen) (e : Event)
      → ((s : Runtime) → IfRegistry s r → IfCells s c → (s' : Runtime) × Goes s s' e r r' c c')
      → Allows (Holds baseline) slots by (view r c seen, []) 0 (λ x. x)
      (λ x m. HasAdded baseline e (view r' c' unseen) (view r c seen, []) m)
  goes_on by slots r r' c c' seen e step t kept len at bound =
      let views = t.views in
      let v = view r c seen in
      let mine = kept.each by v at in
      let s = now baseline kept.links in
      let go = step s mine.registry mine.cells in
      let s' = go.0 in
      let goes = go.1 in
      let w = view r' c' (record { all = e ∷ kept.log; own = e ∷ seen.own }) in
      let l : Link = record { old = s; event = named e; new = s' } in
      let tell : map (λ (x : Link). x.event) (l ∷ kept.links) ≡ map named (e ∷ kept.log) =
      ap (λ es. named e ∷ es) kept.tell in (
        w,
        keeps,
        tt,
        record {
          log = e ∷ kept.log;
          links = l ∷ kept.links;
          run = (refl, goes.happens, kept.run);
          tell = tell;
          registries = (let x : total registries_in (set views by w) + once r
              ≡ total registries_in views + once r' = total_set registries_in views by v w at in
              let y = goes.registries in let z = kept.registries in omega arith);
          lists = λ uid. (let x : total (lists_in uid) (set views by w) + once_of uid c
              ≡ total (lists_in uid) views + once_of uid c' = total_set (lists_in uid) views by v w at in
              ⊎_elim
              (λ (less : once_of uid c' ≤ once_of uid c). let y = kept.lists uid in omega arith)
              (λ (unknown : IsKnown (s.sandbox uid).stage → ⊥).
              let none = unknown_none views kept.log s uid kept.each unknown in
              let y = most uid c' in omega arith)
              (goes.lists uid));
          each = fits_set (λ j u. Fits s' (e ∷ kept.log) u) views by w
              (λ j u apart there. still_fits views by kept.log s s' e r r' c c' seen goes kept.registries
              kept.lists at j u apart there (kept.each j u there))
              (record { registry = goes.registry; cells = goes.cells; seen = ([], refl) });
        },
        record {
          knows = refl;
          grows = record {
            others = mine.seen.0;
            all = ap (λ es. e ∷ es) mine.seen.1;
            own = refl;
            run = (l ∷ kept.links, (refl, goes.happens, kept.run), tell);
          };
          holds = refl;
        },
      )

  -- one token sees all of the history
  pub sees : (by slots : ℕ) (r : Registry) (ids : List ℕ) (c : Option (List ℕ × List Cell)) (seen : Seen)
      → Allows (Holds baseline) slots by (view (Some (r, ids)) c seen, []) 0 (λ x. x)
      (λ x m. Looked baseline (MayRun r ids) (view (Some (r, ids)) c seen, []) m)
  sees by slots r ids c seen t kept len at bound =
      let v = view (Some (r, ids)) c seen in
      let mine = kept.each by v at in
      let w = view (Some (r, ids)) c (record { all = kept.log; own = seen.own }) in (
        w,
        keeps,
        tt,
        stays kept by v w at refl refl
            (record { registry = mine.registry; cells = mine.cells; seen = ([], refl) }),
        record {
          knows = refl;
          looks = record {
            goes_on = mine.seen;
            own = refl;
            links = kept.links;
            run = kept.run;
            tell = kept.tell;
            each = λ id runs. (
              mine.registry.1 id runs,
              (runs.uid, at_home _ r mine.registry.0 id runs),
            );
          };
          holds = refl;
        },
      )

  -- one token no longer counts a cell among those that may run
  pub forgets : (by slots : ℕ) (r : Registry) (ids : List ℕ) (uid : List ℕ) (cells : List Cell) (seen : Seen)
      (id : ℕ) → IsOver r uid cells id
      → Allows (Holds baseline) slots by (view (Some (r, ids)) (Some (uid, cells)) seen, []) 0 (λ x. x)
      (λ x m. m ≡ (view (Some (r, without id ids)) (Some (uid, cells)) seen, []))
  forgets by slots r ids uid cells seen id over t kept len at bound =
      let v = view (Some (r, ids)) (Some (uid, cells)) seen in
      let mine = kept.each by v at in
      let w = view (Some (r, without id ids)) (Some (uid, cells)) seen in (
        w,
        keeps,
        tt,
        stays kept by v w at refl refl (record {
          registry = (
            mine.registry.0,
            λ i runs. in_without id ids i (mine.registry.1 i runs)
                (λ same. not_running _ r uid cells id mine.registry.0 mine.cells over
                (subst (IsRunning (now baseline kept.links)) same runs)),
          );
          cells = mine.cells;
          seen = mine.seen;
        }),
        refl,
      )

with_one : (begun : Option ℕ) (ids : List ℕ) (id : ℕ) → In id ids ⊎ (begun ≡ Some id)
    → In id (with_started begun ids)
with_one None ids id (inl there) = there
with_one None ids id (inr is) = absurd cc
with_one (Some new) ids id (inl there) = inr there
with_one (Some new) ids id (inr is) = inl (let same : new ≡ id = cc in sym same)

transfers : (s s' : Runtime) (uid : List ℕ) (cells : List Cell) → s'.sandbox uid ≡ s.sandbox uid
    → HasCells s uid cells → HasCells s' uid cells
transfers s s' uid cells same has = record {
  are = ap (λ (x : Sandbox). x.cells) same ∙ has.are;
  known = subst (λ (x : Sandbox). IsKnown x.stage) (sym same) has.known;
}

no_cells : (s : Stage) (cells : List Cell) → (IsLive s → ⊥) → IsEmptyIn s cells → cells ≡ []
no_cells stage.Unknown cells dead empty = empty
no_cells (stage.Live ready) cells dead empty = absurd (dead tt)
no_cells stage.Removed cells dead empty = empty

live_known : (s : Stage) → IsLive s → IsKnown s
live_known stage.Unknown live = absurd live
live_known (stage.Live ready) live = tt
live_known stage.Removed live = absurd live

-- a request is served, by the owner of the registry and the cells of its sandbox
pub served : (s : Runtime) (old new : Registry) (call : Call) (files : FileAnswers) (answer : Answer)
    (before behind : List Cell) (ids : List ℕ) (begun : Option ℕ)
    → LendsTo old new call files answer before behind
    → begun ≡ started_by call answer before
    → IfRegistry s (Some (old, ids)) → HasCells s (uid_of call) before
    → (s' : Runtime) × Goes s s' (Served call files answer) (Some (old, ids))
    (Some (new, with_started begun ids)) (Some (uid_of call, before)) (Some (uid_of call, behind))
served s old new call files answer before behind ids begun lent is known cells =
    let has = known.0 in
    let s' = serving.later s old new call files answer before behind has cells.are lent in
    let serves = serving.serves s old new call files answer before behind has cells.are lent in (
      s',
      record {
        happens = serves;
        registry = (
          serving.has_later s old new call files answer before behind has cells.are lent,
          λ id runs. with_one begun ids id (elim (served_runs s s' call files answer id serves runs) [
            | inl ran ↦ inl (known.1 id ran)
            | inr started ↦ inr (is ∙ ap (started_by call answer) (sym cells.are) ∙ started)
          ]),
        );
        cells = record {
          are = serving.behind_there s old new call files answer before behind has cells.are lent;
          known = serving.known_later s old new call files answer before behind has cells.are lent
              cells.known;
        };
        registries = omega arith;
        lists = λ uid. inl (omega arith);
        others_registry = λ x none. absurd (omega arith);
        others_cells = λ uid l none. transfers s s' uid l
            (serves.others uid (once_apart (uid_of call) uid before none));
      },
    )

-- a request that names no existing sandbox is served, by the owner of the registry
pub served_alone : (s : Runtime) (old new : Registry) (call : Call) (files : FileAnswers) (answer : Answer)
    (behind : List Cell) (ids : List ℕ) → (IsLive (stages_in old (uid_of call)) → ⊥)
    → (IsLive (stages_in new (uid_of call)) → ⊥)
    → LendsTo old new call files answer [] behind → IfRegistry s (Some (old, ids))
    → (s' : Runtime) × Goes s s' (Served call files answer) (Some (old, ids)) (Some (new, ids)) None None
served_alone s old new call files answer behind ids dead still_dead lent known =
    let has = known.0 in
    let was : cells_in s (uid_of call) ≡ [] = no_cells (stages_in old (uid_of call)) _ dead
    (has.agrees (uid_of call)).empty in
    let s' = serving.later s old new call files answer [] behind has was lent in
    let serves = serving.serves s old new call files answer [] behind has was lent in
    let has' = serving.has_later s old new call files answer [] behind has was lent in
    let is : cells_in s' (uid_of call) ≡ [] = no_cells (stages_in new (uid_of call)) _ still_dead
    (has'.agrees (uid_of call)).empty in
    let here : (cells : List Cell) → HasCells s (uid_of call) cells → HasCells s' (uid_of call) cells =
    λ cells h. record {
      are = is ∙ sym was ∙ h.are;
      known = serving.known_later s old new call files answer [] behind has was lent h.known;
    } in (
      s',
      record {
        happens = serves;
        registry = (
          has',
          λ id runs. elim (served_runs s s' call files answer id serves runs) [
            | inl ran ↦ known.1 id ran
            | inr started ↦ absurd (none_started call answer _ id was started)
          ],
        );
        cells = tt;
        registries = omega arith;
        lists = λ uid. inl (omega arith);
        others_registry = λ x none. absurd (omega arith);
        others_cells = λ uid cells none h. ⊎_elim
            (λ (same : uid ≡ uid_of call). subst (λ (u : List ℕ). HasCells s' u cells) (sym same)
            (here cells (subst (λ (u : List ℕ). HasCells s u cells) same h)))
            (λ (other : uid ≢ uid_of call). transfers s s' uid cells (serves.others uid other) h)
            (text_cases uid (uid_of call));
      },
    )

-- a sandbox is made, by the owner of the registry
pub served_new : (s : Runtime) (old new : Registry) (call : Call) (files : FileAnswers) (answer : Answer)
    (behind : List Cell) (ids : List ℕ) → stages_in old (uid_of call) ≡ stage.Unknown
    → IsLive (stages_in new (uid_of call))
    → LendsTo old new call files answer [] behind → IfRegistry s (Some (old, ids))
    → (s' : Runtime) × Goes s s' (Served call files answer) (Some (old, ids)) (Some (new, ids)) None
    (Some (uid_of call, behind))
served_new s old new call files answer behind ids unknown live lent known =
    let has = known.0 in
    let was : cells_in s (uid_of call) ≡ [] = no_cells (stages_in old (uid_of call)) _
    (λ live. subst IsLive unknown live) (has.agrees (uid_of call)).empty in
    let s' = serving.later s old new call files answer [] behind has was lent in
    let serves = serving.serves s old new call files answer [] behind has was lent in
    let stage_is : (s.sandbox (uid_of call)).stage ≡ stage.Unknown =
    ap (λ (x : Runtime). (x.sandbox (uid_of call)).stage) has.whole ∙ unknown in
    let not_known : IsKnown (s.sandbox (uid_of call)).stage → ⊥ = λ is. subst IsKnown stage_is is in (
      s',
      record {
        happens = serves;
        registry = (
          serving.has_later s old new call files answer [] behind has was lent,
          λ id runs. elim (served_runs s s' call files answer id serves runs) [
            | inl ran ↦ known.1 id ran
            | inr started ↦ absurd (none_started call answer _ id was started)
          ],
        );
        cells = record {
          are = serving.behind_there s old new call files answer [] behind has was lent;
          known = live_known (stages_in new (uid_of call)) live;
        };
        registries = omega arith;
        lists = λ uid. ⊎_elim
            (λ (same : uid ≡ uid_of call). inr (subst (λ (u : List ℕ). IsKnown (s.sandbox u).stage → ⊥)
            (sym same) not_known))
            (λ (other : uid ≢ uid_of call). inl (let x = lists_none uid (Some (uid_of call, behind))
            (λ held is same. other (same ∙ held_uid held is)) in omega arith))
            (text_cases uid (uid_of call));
        others_registry = λ x none. absurd (omega arith);
        others_cells = λ uid cells none h. ⊎_elim
            (λ (same : uid ≡ uid_of call). absurd (not_known (subst (λ (u : List ℕ).
            IsKnown (s.sandbox u).stage) same h.known)))
            (λ (other : uid ≢ uid_of call). transfers s s' uid cells (serves.others uid other) h)
            (text_cases uid (uid_of call));
      },
    )
  where
    held_uid : (held : List ℕ × List Cell) → Some (uid_of call, behind) ≡ Some held → held.0 ≡ uid_of call
    held_uid held is = cc

-- the cells of a sandbox are listed, by their owner
pub told_cells : (s : Runtime) (call : Call) (files : FileAnswers) (answer : Answer) (cells : List Cell)
    → TellsCells call cells answer → HasCells s (uid_of call) cells
    → (s' : Runtime) × Goes s s' (Served call files answer) None None (Some (uid_of call, cells))
    (Some (uid_of call, cells))
told_cells s call files answer cells told has = (
  s,
  record {
    happens = listing.lists s call files answer cells has.are told;
    registry = tt;
    cells = has;
    registries = omega arith;
    lists = λ uid. inl (omega arith);
    others_registry = λ x none h. h;
    others_cells = λ uid l none h. h;
  },
)

-- a cell does a step, by the owner of its sandbox's cells
pub stepped : (s : Runtime) (uid : List ℕ) (cells behind : List Cell) (id : ℕ) (did : Did)
    → MayStepIn cells id (Some did) behind → map id_of behind ≡ map id_of cells → HasCells s uid cells
    → (s' : Runtime) × Goes s s' (Stepped id did) None None (Some (uid, cells)) (Some (uid, behind))
stepped s uid cells behind id did steps ids has =
    let s' = stepping.later s uid cells behind id did has steps ids in (
      s',
      record {
        happens = stepping.may_step s uid cells behind id did has steps ids;
        registry = tt;
        cells = stepping.has_behind s uid cells behind id did has steps ids;
        registries = omega arith;
        lists = λ u. inl (omega arith);
        others_registry = λ x none known. (
          stepping.still_registry s uid cells behind id did has steps ids x.0 known.0,
          λ i runs. known.1 i (stepping.ran s uid cells behind id did has steps ids i runs),
        );
        others_cells = λ u l none. transfers s s' u l
            (stepping.at_other s uid cells behind id did has steps ids u (once_apart uid u cells none));
      },
    )

-- a view is cut in two
pub splits : (baseline : Option (List Insn)) (by : ℕ) (v left right : View)
    → once left.registry + once right.registry ≤ once v.registry
    → ((uid : List ℕ) → once_of uid left.cells + once_of uid right.cells ≤ once_of uid v.cells)
    → ((s : Runtime) (log : List Event) → Fits s log v → Fits s log left × Fits s log right)
    → Splits (Holds baseline) by v left right
splits baseline by v left right less lesses parts t kept at =
    let views = t.views in
    let s = now baseline kept.links in
    let both = parts s kept.log (kept.each by v at) in
    let front = set views by left in
    record {
      log = kept.log;
      links = kept.links;
      run = kept.run;
      tell = kept.tell;
      registries = (let x : total registries_in front + once v.registry
          ≡ total registries_in views + once left.registry = total_set registries_in views by v left at in
          let y : total registries_in (front ++ right ∷ [])
          ≡ total registries_in front + once right.registry
          = total_snoc registries_in front right in let z = kept.registries in omega arith);
      lists = λ uid. (let x : total (lists_in uid) front + once_of uid v.cells
          ≡ total (lists_in uid) views + once_of uid left.cells
          = total_set (lists_in uid) views by v left at in
          let y : total (lists_in uid) (front ++ right ∷ [])
          ≡ total (lists_in uid) front + once_of uid right.cells = total_snoc (lists_in uid) front right in
          let z = kept.lists uid in let l = lesses uid in omega arith);
      each = λ j u e. ⊎_elim
          (λ was. fits_set (λ i z. Fits s kept.log z) views by left (λ i z _ there. kept.each i z there)
          both.0 j u was)
          (λ (same : right ≡ u). subst (Fits s kept.log) same both.1)
          (at_snoc front right u j e);
    }

-- two views are put together
pub joins : (baseline : Option (List Insn)) (by : ℕ) (v : View) (other : ℕ) (u both : View)
    → once both.registry ≤ once v.registry + once u.registry
    → ((uid : List ℕ) → once_of uid both.cells ≤ once_of uid v.cells + once_of uid u.cells)
    → ((s : Runtime) (log : List Event) → Fits s log v → Fits s log u → Fits s log both)
    → Joins (Holds baseline) by v other u both nobody
joins baseline by v other u both less lesses parts t kept at apart there =
    let views = t.views in
    let s = now baseline kept.links in
    let was : get_elem? views other ≡ some u = ⊎_elim
    (λ (x : (other ≡ by) × (both ≡ u)). absurd (apart x.0))
    (λ (x : (other ≢ by) × (get_elem? views other ≡ some u)). x.1) (at_set views by other both u there) in
    let whole = parts s kept.log (kept.each by v at) (kept.each other u was) in
    let front = set views by both in
    record {
      log = kept.log;
      links = kept.links;
      run = kept.run;
      tell = kept.tell;
      registries = (let x : total registries_in front + once v.registry
          ≡ total registries_in views + once both.registry = total_set registries_in views by v both at in
          let y : total registries_in (set front other nobody) + once u.registry
          ≡ total registries_in front + 0 = total_set registries_in front other u nobody there in
          let z = kept.registries in omega arith);
      lists = λ uid. (let x : total (lists_in uid) front + once_of uid v.cells
          ≡ total (lists_in uid) views + once_of uid both.cells
          = total_set (lists_in uid) views by v both at in
          let y : total (lists_in uid) (set front other nobody) + once_of uid u.cells
          ≡ total (lists_in uid) front + 0 = total_set (lists_in uid) front other u nobody there in
          let z = kept.lists uid in let l = lesses uid in omega arith);
      each = fits_set (λ i z. Fits s kept.log z) front other nobody
          (λ j y _ e. fits_set (λ i z. Fits s kept.log z) views by both (λ i z _ e'. kept.each i z e') whole
          j y e)
          (record { registry = tt; cells = tt; seen = nothing kept.log });
    }
  where
    nothing : (log : List Event) → (later : List Event) × (log ≡ later ++ [])
    nothing log = (log, sym (append-nil log))

module _ (baseline : Option (List Insn)) (by : ℕ) (v : View) where
  none_seen : (log : List Event) → (later : List Event) × (log ≡ later ++ [])
  none_seen log = (log, sym (append-nil log))

  pub whole_splits : Splits (Holds baseline) by v nobody v
  whole_splits = splits baseline by v nobody v (omega arith) (λ uid. omega arith)
      (λ s log fit. (record { registry = tt; cells = tt; seen = none_seen log }, fit))

  pub registry_splits : Splits (Holds baseline) by v (without_registry v) (registry_of v)
  registry_splits = splits baseline by v (without_registry v) (registry_of v) (omega arith)
      (λ uid. omega arith)
      (λ s log fit. (
        record { registry = tt; cells = fit.cells; seen = fit.seen },
        record { registry = fit.registry; cells = tt; seen = none_seen log },
      ))

  pub cells_split : Splits (Holds baseline) by v (without_cells v) (cells_of v)
  cells_split = splits baseline by v (without_cells v) (cells_of v) (omega arith) (λ uid. omega arith)
      (λ s log fit. (
        record { registry = fit.registry; cells = tt; seen = fit.seen },
        record { registry = tt; cells = fit.cells; seen = none_seen log },
      ))

  pub registry_joins : (other : ℕ) (u : View)
      → Joins (Holds baseline) by v other u (with_registry v u) nobody
  registry_joins other u = joins baseline by v other u (with_registry v u) (omega arith)
      (λ uid. omega arith)
      (λ s log fit its. record { registry = its.registry; cells = fit.cells; seen = fit.seen })

  pub cells_join : (other : ℕ) (u : View) → Joins (Holds baseline) by v other u (with_cells v u) nobody
  cells_join other u = joins baseline by v other u (with_cells v u) (omega arith) (λ uid. omega arith)
      (λ s log fit its. record { registry = fit.registry; cells = its.cells; seen = fit.seen })

-- a new caller has seen nothing
pub comes : (baseline : Option (List Insn)) (slots : ℕ)
    → Enters (Holds baseline) slots 0 (λ n w. w ≡ nobody)
comes baseline slots t kept len bound = (
  nobody,
  record {
    log = kept.log;
    links = kept.links;
    run = kept.run;
    tell = kept.tell;
    registries = (let x : total registries_in (t.views ++ nobody ∷ []) ≡ total registries_in t.views + 0
        = total_snoc registries_in t.views nobody in let z = kept.registries in omega arith);
    lists = λ uid. (let x : total (lists_in uid) (t.views ++ nobody ∷ []) ≡ total (lists_in uid) t.views + 0
        = total_snoc (lists_in uid) t.views nobody in let z = kept.lists uid in omega arith);
    each = λ j u e. ⊎_elim
        (λ was. kept.each j u was)
        (λ (same : nobody ≡ u). subst (Fits (now baseline kept.links) kept.log) same fit)
        (at_snoc t.views nobody u j e);
  },
  refl,
)
  where
    fit : Fits (now baseline kept.links) kept.log nobody
    fit = record {
      registry = tt;
      cells = tt;
      seen = (kept.log, sym (append-nil kept.log));
    }
