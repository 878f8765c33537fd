-- What the type of a cell ensures after a step.
use Rattle.std.proofs.Common.{◌≡◌, inl, inr, ℕ, zero, suc, ◌+◌, ◌≤◌, ◌<◌, List, [], ◌∷◌, ◌++◌, length, take}
use Rattle.std.proofs.Common.{drop, slice_get, get_or, nat_lt, Option, Some, None, Bool, true, false, refl}
use Rattle.std.proofs.Common.{sym, ap, subst, ◌∙◌, arith, length-append, add-one, option_to_list}
use Rattle.std.specs.Prelude.{IfSome}
use Rattle.std.proofs.Math.Seq.{take-suc}
use Rattle.std.proofs.lemmas.Bool.{ltb-true}
use Rattle.std.proofs.lemmas.Option.{slice_get_cases, slice_get_read}
use Rattle.std.proofs.lemmas.List.{append-nil, append_assoc, take_all, drop_all, take-append-drop}
use Rattle.std.proofs.lemmas.List.{take-append-le, drop-append-le}
use Rattle.action.specs.Verdict.{performs_of}
use Rattle.bpf_code.specs.declared.insn.Insn.{Insn}
use Rattle.oci_profile.specs.declared.profile.Profile.{Profile}
use Rattle.script.specs.declared.scripts.Step.{Step}
use Rattle.script.specs.declared.scripts.Step.TheVariants.{Call, Exit, ExitByAttempt, Install}
use Rattle.runtime_cell.specs.declared.acts.Act.{Act}
use Rattle.runtime_cell.specs.declared.calls.JudgedCall.{JudgedCall}
use Rattle.runtime_cell.specs.declared.cell.State.{State}
use Rattle.runtime_cell.specs.declared.cell.State.TheVariants.{Created, Running, Exited}
use Rattle.runtime_cell.specs.declared.label.Label.{Label}
use Rattle.script.specs.Script.{HasSoundFilters}
use Rattle.verdict.specs.Stack.{AllSound}
use Rattle.runtime_cell.specs.Cell.{Cell, Confines, FollowsScript, IsWellMade, Making, after, fresh}
use Rattle.runtime_cell.specs.Cell.{filters_of, step_in}
use Rattle.runtime_cell.specs.Keeps.{IsReady, IsReadyIn, IsUnended, filter_in, filters_in, next_by, seen}
use Rattle.runtime_cell.specs.Outcome.{IsNext, Next, end_of, entry_of, has_place, install_call, installed}
use Rattle.runtime_cell.specs.Outcome.{judged}
use Rattle.runtime_cell.specs.Outcome.Next.{Goes, Stops, Over}
use Rattle.runtime_cell.proofs.Follows.{fresh_follows, fresh_goes_on, goes_on}
use Rattle.runtime_cell.proofs.Outcomes.{SaysOne, SaysSome}

-- the filters of the steps from a place on: that of the step there, and those of the others
pub copies_at : (script : List Step) (place : ℕ)
    → filters_in (drop place script) ≡ filter_in (slice_get script place)
    ++ filters_in (drop (suc place) script)
copies_at [] zero = refl
copies_at [] (suc place) = refl
copies_at (step ∷ steps) zero = refl
copies_at (step ∷ steps) (suc place) = copies_at steps place

pub filters_more : (front : List Step) (step : Step) → filters_in (front ++ step ∷ []) ≡ filters_in front
    ++ filter_in (Some step)
filters_more [] step = append-nil (filter_in (Some step))
filters_more (first ∷ front) step = ap (λ fs. filter_in (Some first) ++ fs) (filters_more front step)
    ∙ sym (append_assoc (filter_in (Some first)) (filters_in front) (filter_in (Some step)))

pub copies_more : (steps : List Step) (i : ℕ) (step : Step) → i < length steps → step ≡ get_or steps i step
    → filters_in (take (i + 1) steps) ≡ filters_in (take i steps) ++ filter_in (Some step)
copies_more steps i step below is =
    ap (λ n. filters_in (take n steps)) (add-one i)
    ∙ ap filters_in (take-suc steps i step below ∙ ap (λ (s : Step). take i steps ++ s ∷ []) (sym is))
    ∙ filters_more (take i steps) step

-- the step at a place, as it is read
pub step_read : (steps : List Step) (at : ℕ) (step : Step) → true ≡ nat_lt at (length steps)
    → step ≡ get_or steps at step → slice_get steps at ≡ Some step
step_read steps at step within is = slice_get_read steps (length steps) at step refl
    (ltb-true at (length steps) (sym within)) is

-- a call is judged at a step that the script has
next_within : (stack : List (List Insn)) (attempt : ℕ) (script : List Step) (place : ℕ) (next : Next)
    → IsNext stack attempt (slice_get script place) next → (next ≡ Over 0 → ⊥) → place < length script
next_within stack attempt script place next is judges = elim (slice_get_cases script place).1 [
  | inl within ↦ within.1
  | inr past ↦ absurd (judges (subst (λ s. IsNext stack attempt s next) past.1 is))
]

pub goes_within : (c : Cell) (entry : JudgedCall) (more : List (List Insn))
    → IsNext (filters_of c) c.making.label.attempt (step_in c) (Goes entry more)
    → length c.entries < length c.making.script
goes_within c entry more is = next_within (filters_of c) c.making.label.attempt c.making.script
    (length c.entries) (Goes entry more) is (λ same. absurd cc)

pub stops_within : (c : Cell) (entry : JudgedCall) (code : ℕ)
    → IsNext (filters_of c) c.making.label.attempt (step_in c) (Stops entry code)
    → length c.entries < length c.making.script
stops_within c entry code is = next_within (filters_of c) c.making.label.attempt c.making.script
    (length c.entries) (Stops entry code) is (λ same. absurd cc)

-- the script's next step, as it is read
pub step_here : (script steps : List Step) (entries : List JudgedCall) (at : ℕ) (step known : Step)
    → steps ≡ script → true ≡ nat_lt at (length steps) → at ≡ length entries
    → step ≡ get_or steps at step → step ≡ known → slice_get script (length entries) ≡ Some known
step_here script steps entries at step known same within place is knows =
    sym (ap (slice_get script) place) ∙ sym (ap (λ (s : List Step). slice_get s at) same)
    ∙ step_read steps at step within is ∙ ap {B = Option Step} Some knows

-- the cell after filters were added
seen_more : (label : Label) (script : List Step) (profile : Option Profile) (filters : List (List Insn))
    (start : ℕ) (entries : List JudgedCall) (entry : JudgedCall) (more : List (List Insn))
    → start ≤ length filters
    → after (seen label script profile filters start entries Running) (Goes entry more)
    ≡ seen label script profile (filters ++ more) start (entries ++ entry ∷ []) Running
seen_more label script profile filters start entries entry more within =
    ap (λ (fs : List (List Insn)). record {
      making =
          record { label = label; script = script; stack = fs; profile = profile };
      state = Running;
      entries =
          entries ++ entry ∷ [];
      added = drop start filters ++ more;
    })
    (sym (take-append-le start filters more within))
    ∙ ap (λ (fs : List (List Insn)). record {
      making =
          record { label = label; script = script; stack = take start (filters ++ more); profile = profile };
      state = Running;
      entries = entries ++ entry ∷ [];
      added = fs;
    })
    (sym (drop-append-le start filters more within))

pub goes_kept : SaysOne → (label : Label) (script : List Step) (profile : Option Profile)
    (filters filters' : List (List Insn)) (start : ℕ) (entries entries' : List JudgedCall)
    (entry : JudgedCall) (more : List (List Insn)) (state : State)
    → state ≡ Running → start ≤ length filters → filters' ≡ filters ++ more → entries' ≡ entries ++ entry ∷ []
    → FollowsScript (seen label script profile filters start entries state)
    → IsNext (filters_of (seen label script profile filters start entries state)) label.attempt
    (slice_get script (length entries)) (Goes entry more)
    → FollowsScript (seen label script profile filters' start entries' state)
goes_kept one label script profile filters filters' start entries entries' entry more state runs within
    filters_are entries_are follows is =
    let old : FollowsScript (seen label script profile filters start entries Running) =
    subst (λ s. FollowsScript (seen label script profile filters start entries s)) runs follows in
    let new : FollowsScript (seen label script profile (filters ++ more) start
    (entries ++ entry ∷ []) Running) =
    subst FollowsScript (seen_more label script profile filters start entries entry more within)
    (goes_on one (seen label script profile filters start entries Running) (Goes entry more) old is) in
    subst (λ s. FollowsScript (seen label script profile filters' start entries' s)) (sym runs)
    (subst (λ fs. FollowsScript (seen label script profile fs start entries' Running)) (sym filters_are)
    (subst (λ es. FollowsScript (seen label script profile (filters ++ more) start es Running))
    (sym entries_are) new))

pub stops_kept : SaysOne → (label : Label) (script : List Step) (profile : Option Profile)
    (filters : List (List Insn)) (start : ℕ) (entries entries' : List JudgedCall) (entry : JudgedCall)
    (code : ℕ) (state : State)
    → state ≡ Running → entries' ≡ entries ++ entry ∷ []
    → FollowsScript (seen label script profile filters start entries state)
    → IsNext (filters_of (seen label script profile filters start entries state)) label.attempt
    (slice_get script (length entries)) (Stops entry code)
    → FollowsScript (seen label script profile filters start entries' (Exited code false))
stops_kept one label script profile filters start entries entries' entry code state runs entries_are follows
    is =
    let old : FollowsScript (seen label script profile filters start entries Running) =
    subst (λ s. FollowsScript (seen label script profile filters start entries s)) runs follows in
    subst (λ es. FollowsScript (seen label script profile filters start es (Exited code false)))
    (sym entries_are)
    (goes_on one (seen label script profile filters start entries Running) (Stops entry code) old is)

pub over_kept : SaysOne → (label : Label) (script : List Step) (profile : Option Profile)
    (filters : List (List Insn)) (start : ℕ) (entries : List JudgedCall) (code : ℕ) (state : State)
    → state ≡ Running → FollowsScript (seen label script profile filters start entries state)
    → IsNext (filters_of (seen label script profile filters start entries state)) label.attempt
    (slice_get script (length entries)) (Over code)
    → FollowsScript (seen label script profile filters start entries (Exited code false))
over_kept one label script profile filters start entries code state runs follows is =
    let old : FollowsScript (seen label script profile filters start entries Running) =
    subst (λ s. FollowsScript (seen label script profile filters start entries s)) runs follows in
    goes_on one (seen label script profile filters start entries Running) (Over code) old is

one_more : (n : ℕ) → suc n ≡ n + 1
one_more n = omega arith

-- the copies that are left, and the room for them
pub ready_on : (script : List Step) (place place' : ℕ) (copies copies' own : List (List Insn))
    (room room' : ℕ) (state : State) → state ≡ Running → place' ≡ place + 1
    → IsReadyIn state script place copies room → own ≡ filter_in (slice_get script place)
    → copies' ≡ filters_in (drop (place + 1) script) → room ≤ room' + length own
    → IsReadyIn state script place' copies' room'
ready_on script place place' copies copies' own room room' state runs behind ready own_is rest spare =
    let was : IsReady script place copies room =
    subst (λ s. IsReadyIn s script place copies room) runs ready in
    let parts : copies ≡ own ++ copies' =
    was.copied ∙ copies_at script place ∙ ap (λ fs. fs ++ filters_in (drop (suc place) script)) (sym own_is)
    ∙ ap (λ at. own ++ filters_in (drop at script)) (one_more place) ∙ ap (λ fs. own ++ fs) (sym rest) in
    subst (λ s. IsReadyIn s script place' copies' room') (sym runs) (record {
      copied = rest ∙ ap (λ at. filters_in (drop at script)) (sym behind);
      spare = omega (arith, was.spare, ap length parts, length-append own copies', spare);
    })

-- the copies are those of the steps to come, and there is room for that of this step
pub copies_are : (script : List Step) (place : ℕ) (copies : List (List Insn)) (room : ℕ) (state : State)
    → state ≡ Running → IsReadyIn state script place copies room → copies ≡ filters_in (drop place script)
copies_are script place copies room state runs ready =
    (subst (λ s. IsReadyIn s script place copies room) runs ready).copied

pub spare_here : (script : List Step) (place : ℕ) (copies own : List (List Insn)) (room : ℕ) (state : State)
    → state ≡ Running → IsReadyIn state script place copies room → own ≡ filter_in (slice_get script place)
    → length own ≤ room
spare_here script place copies own room state runs ready own_is =
    let was : IsReady script place copies room =
    subst (λ s. IsReadyIn s script place copies room) runs ready in
    omega (
      arith,
      was.spare,
      ap length was.copied,
      ap length (copies_at script place),
      length-append (filter_in (slice_get script place)) (filters_in (drop (suc place) script)),
      ap length own_is,
    )

judged_adds_none : (entry other : JudgedCall) (end : Option ℕ) (filter : List Insn)
    → Goes entry (filter ∷ []) ≡ judged other end → ⊥
judged_adds_none entry other None filter same = absurd cc
judged_adds_none entry other (Some code) filter same = absurd cc

place_of : (entry other : JudgedCall) (filter : List Insn) (end on_error : Option ℕ) (performs place : Bool)
    → Goes entry (filter ∷ []) ≡ installed filter other end on_error performs place → place ≡ true
place_of entry other filter end on_error true true same = refl
place_of entry other filter end on_error true false same = absurd (judged_adds_none entry other _ filter same)
place_of entry other filter end on_error false place same =
    absurd (judged_adds_none entry other end filter same)

-- a filter is added only if it fits on the stack
has_place_by : (stack : List (List Insn)) (attempt : ℕ) (step : Option Step) (entry : JudgedCall)
    (copy : Option (List Insn)) → option_to_list copy ≡ filter_in step
    → IsNext stack attempt step (Goes entry (filter_in step))
    → IfSome copy (λ f. has_place stack f ≡ true)
has_place_by stack attempt step entry None own is = tt
has_place_by stack attempt None entry (Some f) own is = absurd cc
has_place_by stack attempt (Some (Call call on_error)) entry (Some f) own is = absurd cc
has_place_by stack attempt (Some (Exit code)) entry (Some f) own is = absurd cc
has_place_by stack attempt (Some (ExitByAttempt codes)) entry (Some f) own is = absurd cc
has_place_by stack attempt (Some (Install filter on_error)) entry (Some f) own is =
    let same : filter ≡ f = cc in
    ap (has_place stack) (sym same) ∙ place_of entry (entry_of install_call is.0) filter
    (end_of is.0 on_error) on_error (performs_of is.0.action) (has_place stack filter) is.2

pub place_here : (filters : List (List Insn)) (start attempt : ℕ) (step : Option Step) (entry : JudgedCall)
    (copy : Option (List Insn)) → option_to_list copy ≡ filter_in step
    → IsNext (take start filters ++ drop start filters) attempt step (Goes entry (filter_in step))
    → IfSome copy (λ f. has_place filters f ≡ true)
place_here filters start attempt step entry copy own is =
    has_place_by filters attempt step entry copy own
    (subst (λ fs. IsNext fs attempt step (Goes entry (filter_in step)))
    (take-append-drop start filters) is)

-- what is done next, as it is read
pub act_here : (filters : List (List Insn)) (start attempt : ℕ) (script steps : List Step)
    (entries : List JudgedCall) (at : ℕ) (step known : Step) (act : Act) → steps ≡ script
    → true ≡ nat_lt at (length steps) → at ≡ length entries
    → step ≡ get_or steps at step → step ≡ known
    → IsNext filters attempt (Some known) (next_by act (Some known))
    → IsNext (take start filters ++ drop start filters) attempt (slice_get script (length entries))
    (next_by act (slice_get script (length entries)))
act_here filters start attempt script steps entries at step known act same within place is knows next =
    let here : slice_get script (length entries) ≡ Some known =
    step_here script steps entries at step known same within place is knows in
    subst (λ fs. IsNext fs attempt (slice_get script (length entries))
    (next_by act (slice_get script (length entries)))) (sym (take-append-drop start filters))
    (subst (λ s. IsNext filters attempt s (next_by act s)) (sym here) next)

heads : (x y : List Insn) (xs ys : List (List Insn)) → x ∷ xs ≡ y ∷ ys → x ≡ y
heads x y xs ys same = cc

-- what is done at the step of a cell, seen as what is kept
pub next_seen : (seen_as known : Cell) (does : Act) → seen_as ≡ known
    → IsNext (filters_of known) known.making.label.attempt (step_in known) (next_by does (step_in known))
    → IsNext (filters_of seen_as) seen_as.making.label.attempt (step_in seen_as)
    (next_by does (step_in seen_as))
next_seen seen_as known does same is = subst (λ (s : Cell).
    IsNext (filters_of s) s.making.label.attempt (step_in s) (next_by does (step_in s))) (sym same) is

pub own_here : (script steps : List Step) (at place : ℕ) (own : List (List Insn))
    → own ≡ filter_in (slice_get steps at) → steps ≡ script → at ≡ place
    → own ≡ filter_in (slice_get script place)
own_here script steps at place own is same here = is ∙ ap (λ ss. filter_in (slice_get ss at)) same
    ∙ ap (λ p. filter_in (slice_get script p)) here

pub rest_here : (script steps : List Step) (at place : ℕ) (rest : List (List Insn))
    → rest ≡ filters_in (drop (at + 1) steps) → steps ≡ script → at ≡ place
    → rest ≡ filters_in (drop (place + 1) script)
rest_here script steps at place rest is same here = is ∙ ap (λ ss. filters_in (drop (at + 1) ss)) same
    ∙ ap (λ p. filters_in (drop (p + 1) script)) here

-- one popped
pub popped : (old new : List (List Insn)) (result : Option (List Insn)) (own : List Insn)
    (rest : List (List Insn)) → old ≡ own ∷ rest → old ≡ option_to_list result ++ new → new ≡ drop 1 old
    → option_to_list result ≡ own ∷ []
popped old new None own rest is parts dropped =
    let tail : new ≡ rest = dropped ∙ ap (drop 1) is in
    absurd (omega (arith, ap length is, ap length parts, ap length tail))
popped old new (Some f) own rest is parts dropped =
    let same : f ∷ new ≡ own ∷ rest = sym parts ∙ is in
    ap (λ x. x ∷ []) (heads f own new rest same)

-- what the type ensures for the cell of this kept data
abbrev pub IsHeld : Label → List Step → Option Profile → List (List Insn) → ℕ → List JudgedCall → ℕ
    → List (List Insn) → ℕ → State → Type 0
IsHeld label script profile filters start entries capacity copies room state = (start ≤ length filters)
    × (length script ≤ capacity)
    × IsReadyIn state script (length entries) copies room
    × IsWellMade (seen label script profile filters start entries state).making
    × FollowsScript (seen label script profile filters start entries state)

longer : (entries : List JudgedCall) (entry : JudgedCall) → length (entries ++ entry ∷ []) ≡ length entries
    + 1
longer entries entry = omega (arith, length-append entries (entry ∷ []))

pub goes_held : SaysOne → (label : Label) (script : List Step) (profile : Option Profile)
    (filters filters' : List (List Insn)) (start : ℕ) (entries entries' : List JudgedCall)
    (capacity capacity' : ℕ)
    (copies copies' own : List (List Insn)) (room room' : ℕ) (state : State) (entry : JudgedCall)
    (more : List (List Insn))
    → IsHeld label script profile filters start entries capacity copies room state → state ≡ Running
    → filters' ≡ filters ++ more → entries' ≡ entries ++ entry ∷ [] → capacity ≤ capacity'
    → own ≡ filter_in (slice_get script (length entries))
    → copies' ≡ filters_in (drop (length entries + 1) script) → room ≤ room' + length own
    → IsNext (filters_of (seen label script profile filters start entries state)) label.attempt
    (slice_get script (length entries)) (Goes entry more)
    → IsHeld label script profile filters' start entries' capacity' copies' room' state
goes_held one label script profile filters filters' start entries entries' capacity capacity' copies copies'
    own room room' state entry more held runs filters_are entries_are grows own_is rest spare is =
    let behind : length entries' ≡ length entries + 1 = ap length entries_are ∙ longer entries entry in
    let stack : take start filters ≡ take start filters' =
    sym (ap (take start) filters_are ∙ take-append-le start filters more held.0) in (
      omega (arith, held.0, ap length filters_are, length-append filters more),
      omega (arith, held.1, grows),
      ready_on script (length entries) (length entries') copies copies' own room room' state runs behind
          held.2 own_is rest spare,
      subst (λ fs. IsWellMade (record { label = label; script = script; stack = fs; profile = profile }))
          stack held.3,
      goes_kept one label script profile filters filters' start entries entries' entry more state runs held.0
          filters_are entries_are held.4 is,
    )

pub stops_held : SaysOne → (label : Label) (script : List Step) (profile : Option Profile)
    (filters : List (List Insn)) (start : ℕ) (entries entries' : List JudgedCall) (capacity capacity' : ℕ)
    (copies copies' : List (List Insn)) (room : ℕ) (state : State) (entry : JudgedCall) (code : ℕ)
    → IsHeld label script profile filters start entries capacity copies room state → state ≡ Running
    → entries' ≡ entries ++ entry ∷ [] → capacity ≤ capacity'
    → IsNext (filters_of (seen label script profile filters start entries state)) label.attempt
    (slice_get script (length entries)) (Stops entry code)
    → IsHeld label script profile filters start entries' capacity' copies' room (Exited code false)
stops_held one label script profile filters start entries entries' capacity capacity' copies copies' room
    state entry code held runs entries_are grows is = (
      held.0,
      omega (arith, held.1, grows),
      tt,
      held.3,
      stops_kept one label script profile filters start entries entries' entry code state runs entries_are
          held.4 is,
    )

pub over_held : SaysOne → (label : Label) (script : List Step) (profile : Option Profile)
    (filters : List (List Insn)) (start : ℕ) (entries : List JudgedCall) (capacity : ℕ)
    (copies copies' : List (List Insn)) (room : ℕ) (state : State) (code : ℕ)
    → IsHeld label script profile filters start entries capacity copies room state → state ≡ Running
    → IsNext (filters_of (seen label script profile filters start entries state)) label.attempt
    (slice_get script (length entries)) (Over code)
    → IsHeld label script profile filters start entries capacity copies' room (Exited code false)
over_held one label script profile filters start entries capacity copies copies' room state code held runs is
    = (
      held.0,
      held.1,
      tt,
      held.3,
      over_kept one label script profile filters start entries code state runs
          held.4 is,
    )

pub onward : (script : List Step) (entries entries' : List JudgedCall) (entry : JudgedCall)
    → length entries < length script → entries' ≡ entries ++ entry ∷ []
    → (length entries' ≡ length entries + 1) × (length entries' ≤ length script)
onward script entries entries' entry within is =
    let by_one : length entries' ≡ length entries + 1 = ap length is ∙ longer entries entry in
    (by_one, omega (arith, by_one, within))

seen_fresh : (label : Label) (script : List Step) (profile : Option Profile) (filters : List (List Insn))
    (state : State)
    → seen label script profile filters (length filters) [] state
    ≡ fresh (record { label = label; script = script; stack = filters; profile = profile }) state
seen_fresh label script profile filters state =
    ap (λ (fs : List (List Insn)). record {
      making =
          record { label = label; script = script; stack = fs; profile = profile };
      state = state;
      entries = [];
      added = drop (length filters) filters;
    }) (take_all (length filters) filters (omega arith))
    ∙ ap (λ (fs : List (List Insn)). record {
      making =
          record { label = label; script = script; stack = filters; profile = profile };
      state = state;
      entries = [];
      added = fs;
    }) (drop_all (length filters) filters (omega arith))

fresh_in : SaysSome → (making : Making) (state : State) → IsUnended state → IsWellMade making
    → FollowsScript (fresh making state)
fresh_in some making Created unended made = fresh_follows some making made
fresh_in some making Running unended made = fresh_goes_on some making Running made
fresh_in some making (Exited code killed) unended made = absurd unended

ready_fresh : (script : List Step) (copies : List (List Insn)) (room : ℕ) (state : State) → IsUnended state
    → copies ≡ filters_in script → length copies ≤ room → IsReadyIn state script 0 copies room
ready_fresh script copies room Created unended copied spare = record { copied = copied; spare = spare }
ready_fresh script copies room Running unended copied spare = record { copied = copied; spare = spare }
ready_fresh script copies room (Exited code killed) unended copied spare = absurd unended

-- a cell as it is made
pub fresh_held : SaysSome → (label : Label) (script : List Step) (profile : Option Profile)
    (filters : List (List Insn)) (start : ℕ) (entries : List JudgedCall) (capacity : ℕ)
    (copies : List (List Insn)) (room : ℕ) (state : State)
    → start ≡ length filters → entries ≡ [] → length script ≤ capacity → copies ≡ filters_in script
    → length copies ≤ room → IsUnended state
    → AllSound filters → HasSoundFilters script → Confines filters profile
    → IsHeld label script profile filters start entries capacity copies room state
fresh_held some label script profile filters start entries capacity copies room state starts none enough
    copied spare unended sound fits confined =
    let making : Making = record { label = label; script = script; stack = filters; profile = profile } in
    let made : IsWellMade making = record { sound = sound; fits = fits; confined = confined } in
    let is : seen label script profile filters start entries state ≡ fresh making state =
    ap (λ at. seen label script profile filters at entries state) starts
    ∙ ap (λ es. seen label script profile filters (length filters) es state) none
    ∙ seen_fresh label script profile filters state in (
      omega (arith, starts),
      enough,
      subst (λ es. IsReadyIn state script (length es) copies room) (sym none)
          (ready_fresh script copies room state unended copied spare),
      subst (λ (c : Cell). IsWellMade c.making) (sym is) made,
      subst FollowsScript (sym is) (fresh_in some making state unended made),
    )
