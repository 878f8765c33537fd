-- The learned entries allow the calls that were seen, and no others.
use Rattle.std.proofs.Common.{◌≡◌, ◌↔◌, ℕ, ◌<◌, ◌≤◌, Bool, true, false, not, ◌&&◌, ◌||◌, List, [], ◌∷◌, ◌++◌, cond, eqb}
use Rattle.std.proofs.Common.{ltb, leb, length, map, Option, Some, None, append_assoc, arith, refl, ap, sym, subst, ◌∙◌}
use Rattle.std.specs.Prelude.{slice_index, unwrap_or}
use Rattle.std.proofs.lemmas.Bool.{eqb-true, ltb-true, ltb-false, ne_eqb}
use Rattle.std.proofs.lemmas.Grind.{common_steps}
use Rattle.call_data.specs.declared.sys_call.SysCall.{SysCall}
use Rattle.sys_table.specs.SysTable.{name_of, number_of}
use Rattle.sys_table.specs.declared.table.TheConstants.{TABLE_LIMIT}
use Rattle.oci_profile.specs.declared.decision.Decision.{Decision}
use Rattle.oci_profile.specs.declared.decision.Decision.TheVariants.{Allow, KillProcess}
use Rattle.oci_profile.specs.declared.profile.Entry.{Entry}
use Rattle.oci_profile.specs.declared.profile.Profile.{Profile}
use Rattle.oci_profile.specs.Decision.{value_of}
use Rattle.oci_profile.specs.Meaning.{all_hold, chosen, decision_of, meaning, names}
use Rattle.profile_learn.specs.declared.learned.Learned.{Learned}
use Rattle.profile_learn.specs.declared.learner.Wanted.{Wanted}
use Rattle.profile_learn.specs.declared.sighting.Sighting.{Sighting}
use Rattle.profile_learn.specs.declared.values.Values.{Values}
use Rattle.profile_learn.specs.declared.values.Values.TheVariants.{Nothing, One, Two, Three, Four, Many}
use Rattle.profile_learn.specs.declared.values.Values.TheVariants.{Unclear}
use Rattle.profile_learn.specs.Allowed.{is_allowed, learned_meaning}
use Rattle.profile_learn.specs.Entries.{any_below, keeps_few, learned_entries, narrow_entries, numbers_entries}
use Rattle.profile_learn.specs.Entries.{takes_any, value_entries, value_entry}
use Rattle.profile_learn.specs.Kept.{IsKept, IsKeptOf, IsList, IsSummary, is_few, list_of}
use Rattle.profile_learn.specs.Needed.{is_named_needed, is_needed}
use Rattle.profile_learn.specs.Sightings.{distinct, has_value, is_among, is_narrow, is_seen, is_unclear}
use Rattle.profile_learn.specs.Sightings.{values_seen}
use Rattle.profile_learn.specs.Small.{small_argument}
use Rattle.profile_learn.proofs.Numbers.{among_any}

and_true : (b : Bool) → (b && true) ≡ b
and_true true = refl
and_true false = refl

numbers_first : (numbers : List ℕ) (rest : List Entry) (default : Decision) (nr : ℕ) (call : SysCall)
    → decision_of (numbers_entries numbers ++ rest) default nr call
    ≡ cond (is_among numbers nr) Allow (decision_of rest default nr call)
unfolding names all_hold
numbers_first [] rest default nr call = refl
numbers_first (n ∷ ns) rest default nr call =
    let whole : (is_among (n ∷ ns) nr && true) ≡ is_among (n ∷ ns) nr = and_true (is_among (n ∷ ns) nr) in
    ap (λ b. cond b Allow (decision_of rest default nr call)) whole

value_applies : (nr index value at : ℕ) (call : SysCall) → (names (value_entry nr index value) at
    && all_hold (value_entry nr index value) call) ≡ (eqb nr at && eqb value (slice_index call.args index))
unfolding names all_hold
value_applies nr index value at call = grind (arith, common_steps)

joined : (named first rest : Bool) (d : Decision)
    → cond (named && first) Allow (cond (named && rest) Allow d) ≡ cond (named && (first || rest)) Allow d
joined true true rest d = refl
joined true false rest d = refl
joined false first rest d = refl

never : (b : Bool) (d : Decision) → d ≡ cond (b && false) Allow d
never true d = refl
never false d = refl

values_first : (nr index : ℕ) (values : List ℕ) (rest : List Entry) (default : Decision) (at : ℕ)
    (call : SysCall) → decision_of (map (value_entry nr index) values ++ rest) default at call
    ≡ cond (eqb nr at && is_among values (slice_index call.args index)) Allow (decision_of rest default at call)
values_first nr index [] rest default at call = never (eqb nr at) (decision_of rest default at call)
values_first nr index (v ∷ vs) rest default at call =
    ap (λ b. cond b Allow (decision_of (map (value_entry nr index) vs ++ rest) default at call))
    (value_applies nr index v at call)
    ∙ ap (λ d. cond (eqb nr at && eqb v (slice_index call.args index)) Allow d)
    (values_first nr index vs rest default at call)
    ∙ joined (eqb nr at) (eqb v (slice_index call.args index)) (is_among vs (slice_index call.args index))
    (decision_of rest default at call)

-- the call is one of those with a small argument, with a value that is kept
abbrev hits : Learned → ℕ → List ℕ → Bool
hits learned nr args = (eqb 16 nr && is_among (list_of learned.ioctl) (slice_index args 1))
    || ((eqb 41 nr && is_among (list_of learned.socket) (slice_index args 0))
    || ((eqb 72 nr && is_among (list_of learned.fcntl) (slice_index args 1))
    || ((eqb 135 nr && is_among (list_of learned.personality) (slice_index args 0))
    || (eqb 157 nr && is_among (list_of learned.prctl) (slice_index args 0)))))

either : (a b : Bool) (d : Decision) → cond a Allow (cond b Allow d) ≡ cond (a || b) Allow d
either true b d = refl
either false b d = refl

either_five : (a b c d e : Bool) (rest : Decision)
    → cond a Allow (cond b Allow (cond c Allow (cond d Allow (cond e Allow rest))))
    ≡ cond (a || (b || (c || (d || e)))) Allow rest
either_five true b c d e rest = refl
either_five false true c d e rest = refl
either_five false false true d e rest = refl
either_five false false false true e rest = refl
either_five false false false false e rest = refl

narrow_first : (learned : Learned) (rest : List Entry) (default : Decision) (nr : ℕ) (call : SysCall)
    → decision_of (narrow_entries learned ++ rest) default nr call
    ≡ cond (hits learned nr call.args) Allow (decision_of rest default nr call)
narrow_first learned rest default nr call =
    let after_prctl = value_entries 157 0 learned.prctl ++ rest in
    let after_personality = value_entries 135 0 learned.personality ++ after_prctl in
    let after_fcntl = value_entries 72 1 learned.fcntl ++ after_personality in
    let after_socket = value_entries 41 0 learned.socket ++ after_fcntl in
    let flat : narrow_entries learned ++ rest ≡ value_entries 16 1 learned.ioctl ++ after_socket
    = simp append_assoc in
    let d = decision_of rest default nr call in
    let e5 = values_first 157 0 (list_of learned.prctl) rest default nr call in
    let e4 = values_first 135 0 (list_of learned.personality) after_prctl default nr call in
    let e3 = values_first 72 1 (list_of learned.fcntl) after_personality default nr call in
    let e2 = values_first 41 0 (list_of learned.socket) after_fcntl default nr call in
    let e1 = values_first 16 1 (list_of learned.ioctl) after_socket default nr call in
    ap (λ es. decision_of es default nr call) flat ∙ rw (e1, e2, e3, e4, e5)
    (either_five (eqb 16 nr && is_among (list_of learned.ioctl) (slice_index call.args 1))
    (eqb 41 nr && is_among (list_of learned.socket) (slice_index call.args 0))
    (eqb 72 nr && is_among (list_of learned.fcntl) (slice_index call.args 1))
    (eqb 135 nr && is_among (list_of learned.personality) (slice_index call.args 0))
    (eqb 157 nr && is_among (list_of learned.prctl) (slice_index call.args 0)) d)

maybe_narrow : (args : Bool) (learned : Learned) (rest : List Entry) (default : Decision) (nr : ℕ)
    (call : SysCall) → decision_of (cond args (narrow_entries learned) [] ++ rest) default nr call
    ≡ cond (args && hits learned nr call.args) Allow (decision_of rest default nr call)
maybe_narrow true learned rest default nr call = narrow_first learned rest default nr call
maybe_narrow false learned rest default nr call = refl

-- what the entries allow
abbrev allows : Learned → Wanted → ℕ → List ℕ → Bool
allows learned wanted nr args = (ltb nr TABLE_LIMIT && takes_any learned wanted nr)
    || (wanted.args && hits learned nr args)

entries_first : (learned : Learned) (wanted : Wanted) (rest : List Entry) (default : Decision) (nr : ℕ)
    (call : SysCall) → decision_of (learned_entries learned wanted ++ rest) default nr call
    ≡ cond (allows learned wanted nr call.args) Allow (decision_of rest default nr call)
entries_first learned wanted rest default nr call =
    let numbers = any_below learned wanted TABLE_LIMIT in
    let narrow = cond wanted.args (narrow_entries learned) [] in
    ap (λ es. decision_of es default nr call) (append_assoc (numbers_entries numbers) narrow rest)
    ∙ numbers_first numbers (narrow ++ rest) default nr call
    ∙ ap (λ d. cond (is_among numbers nr) Allow d) (maybe_narrow wanted.args learned rest default nr call)
    ∙ either (is_among numbers nr) (wanted.args && hits learned nr call.args)
    (decision_of rest default nr call)
    ∙ ap (λ b. cond (b || (wanted.args && hits learned nr call.args)) Allow (decision_of rest default nr call))
    (among_any learned wanted nr)

-- the call's values are known and few
abbrev few_seen : List Sighting → ℕ → Bool
few_seen history nr = not (is_unclear history nr) && leb (length (distinct (values_seen history nr))) 4

list_few : (kept : List ℕ) (unclear : Bool) (seen : List ℕ) → length kept ≤ 4 → IsList kept unclear seen
    → true ≡ (not unclear && leb (length (distinct seen)) 4)
list_few kept unclear seen short is = grind (arith, common_steps, is.clear, is.each.many)

few_is : (values : Values) (unclear : Bool) (seen : List ℕ) → IsKept values unclear seen
    → is_few values ≡ (not unclear && leb (length (distinct seen)) 4)
few_is Nothing unclear seen is = list_few [] unclear seen (omega arith) is
few_is (One a) unclear seen is = list_few (a ∷ []) unclear seen (omega arith) is
few_is (Two a b) unclear seen is = list_few (a ∷ b ∷ []) unclear seen (omega arith) is
few_is (Three a b c) unclear seen is = list_few (a ∷ b ∷ c ∷ []) unclear seen (omega arith) is
few_is (Four a b c d) unclear seen is = list_few (a ∷ b ∷ c ∷ d ∷ []) unclear seen (omega arith) is
few_is Many unclear seen is = grind (arith, common_steps, is.0, is.1)
few_is Unclear unclear seen is = grind (arith, common_steps)

-- where they are few, they are kept
kept_is : (values : Values) (unclear : Bool) (seen : List ℕ) (w : ℕ) → IsKept values unclear seen
    → is_among (list_of values) w ≡ (is_few values && is_among seen w)
kept_is Nothing unclear seen w is = is.each.same w
kept_is (One a) unclear seen w is = is.each.same w
kept_is (Two a b) unclear seen w is = is.each.same w
kept_is (Three a b c) unclear seen w is = is.each.same w
kept_is (Four a b c d) unclear seen w is = is.each.same w
kept_is Many unclear seen w is = refl
kept_is Unclear unclear seen w is = refl

-- a value was seen of a call only if the call was seen
value_seen : (history : List Sighting) (nr w : ℕ) → has_value history nr w ≡ true → is_seen history nr ≡ true
value_seen [] nr w there = absurd cc
value_seen (s ∷ history) nr w there = grind (arith, common_steps, value_seen history nr w)

abbrev fits_at : List Sighting → Bool → ℕ → ℕ → Bool
fits_at history args nr w = cond (args && few_seen history nr) (has_value history nr w) true

tests : (needs seen args few has : Bool) → (has ≡ true → seen ≡ true)
    → ((needs || (seen && not (args && few))) || (args && (few && has)))
    ≡ (needs || (seen && cond (args && few) has true))
tests true seen args few has given = refl
tests false seen false few has given = grind (arith, common_steps)
tests false seen true false has given = grind (arith, common_steps)
tests false true true true has given = refl
tests false false true true true given = absurd (let e = given refl in cc)
tests false false true true false given = refl

slot : (values : Values) (nr : ℕ) (history : List Sighting) (w : ℕ) (args needs : Bool)
    → IsKeptOf values nr history
    → ((needs || (is_seen history nr && not (args && is_few values))) || (args && is_among (list_of values) w))
    ≡ (needs || (is_seen history nr && fits_at history args nr w))
slot values nr history w args needs is =
    rw (
      kept_is values (is_unclear history nr) (values_seen history nr) w is,
      few_is values (is_unclear history nr) (values_seen history nr) is,
    )
    (tests needs (is_seen history nr) args (few_seen history nr) (has_value history nr w)
    (value_seen history nr w))

eqb_other : (a b : ℕ) → eqb b a ≡ false → eqb a b ≡ false
eqb_other a b e = grind (arith, common_steps)

not_true : (b : Bool) → (b ≡ true → ⊥) → b ≡ false
not_true b isnt = elim b as (λ x. b ≡ x → b ≡ false) [ true ↦ λ is. absurd (isnt is) | false ↦ λ is. is ] refl

not_leb : (a b : ℕ) → b < a → leb a b ≡ false
not_leb a b lt = grind (arith, common_steps)

-- what is kept decides as the sightings do, of the call with this number
abbrev Agrees : Learned → List Sighting → List ℕ → Bool → Bool → ℕ → Type 0
Agrees learned history args compared needs nr =
    ((needs || (is_seen history nr && not (compared && keeps_few learned nr)))
    || (compared && hits learned nr args))
    ≡ (needs || (is_seen history nr && cond (compared && is_narrow history nr)
    (has_value history nr (slice_index args (unwrap_or (small_argument nr) 0))) true))

or_false : (b : Bool) → b ≡ (b || false)
or_false true = refl
or_false false = refl

at_slot : (values : Values) (nr : ℕ) (history : List Sighting) (w : ℕ) (args needs : Bool)
    → IsKeptOf values nr history → ((needs || (is_seen history nr && not (args && is_few values)))
    || (args && (is_among (list_of values) w || false)))
    ≡ (needs || (is_seen history nr && fits_at history args nr w))
at_slot values nr history w args needs is =
    subst (λ b. ((needs || (is_seen history nr && not (args && is_few values))) || (args && b))
    ≡ (needs || (is_seen history nr && fits_at history args nr w)))
    (or_false (is_among (list_of values) w)) (slot values nr history w args needs is)

plain : (needs seen compared has : Bool) → ((needs || (seen && not (compared && false))) || (compared && false))
    ≡ (needs || (seen && cond (compared && false) has true))
plain true seen compared has = refl
plain false true true has = refl
plain false true false has = refl
plain false false true has = refl
plain false false false has = refl

at_other : (learned : Learned) (history : List Sighting) (args : List ℕ) (compared needs : Bool) (nr : ℕ)
    → eqb nr 16 ≡ false → eqb nr 41 ≡ false → eqb nr 72 ≡ false → eqb nr 135 ≡ false → eqb nr 157 ≡ false
    → Agrees learned history args compared needs nr
at_other learned history args compared needs nr a b c d e =
    let few : keeps_few learned nr ≡ false = rw (a, b, c, d, e) refl in
    let small : small_argument nr ≡ None = rw (a, b, c, d, e) refl in
    let narrow : is_narrow history nr ≡ false = rw small refl in
    let none : hits learned nr args ≡ false = rw (
      eqb_other 16 nr a,
      eqb_other 41 nr b,
      eqb_other 72 nr c,
      eqb_other 135 nr d,
      eqb_other 157 nr e,
    ) refl in
    rw (few, narrow, none) (plain needs (is_seen history nr) compared _)

agrees : (learned : Learned) (history : List Sighting) (args : List ℕ) (compared needs : Bool) (nr : ℕ)
    → IsSummary learned history → Agrees learned history args compared needs nr
agrees learned history args compared needs nr is =
    let Goal = λ (n : ℕ). Agrees learned history args compared needs n in
    elim (eqb nr 16) as (λ b. eqb nr 16 ≡ b → Goal nr) [
      | true ↦ λ a. subst Goal (sym (eqb-true nr 16 a))
          (at_slot learned.ioctl 16 history (slice_index args 1) compared needs is.ioctl)
      | false ↦ λ a. elim (eqb nr 41) as (λ b. eqb nr 41 ≡ b → Goal nr) [
        | true ↦ λ b. subst Goal (sym (eqb-true nr 41 b))
            (at_slot learned.socket 41 history (slice_index args 0) compared needs is.socket)
        | false ↦ λ b. elim (eqb nr 72) as (λ b. eqb nr 72 ≡ b → Goal nr) [
          | true ↦ λ c. subst Goal (sym (eqb-true nr 72 c))
              (at_slot learned.fcntl 72 history (slice_index args 1) compared needs is.fcntl)
          | false ↦ λ c. elim (eqb nr 135) as (λ b. eqb nr 135 ≡ b → Goal nr) [
            | true ↦ λ d. subst Goal (sym (eqb-true nr 135 d))
                (at_slot learned.personality 135 history (slice_index args 0) compared needs is.personality)
            | false ↦ λ d. elim (eqb nr 157) as (λ b. eqb nr 157 ≡ b → Goal nr) [
              | true ↦ λ e. subst Goal (sym (eqb-true nr 157 e))
                  (slot learned.prctl 157 history (slice_index args 0) compared needs is.prctl)
              | false ↦ λ e. at_other learned history args compared needs nr a b c d e
            ] refl
          ] refl
        ] refl
      ] refl
    ] refl

-- a name has a number exactly if the number has the name, and it is one of the table
abbrev pub EachWay : Type 0
EachWay = (name : List ℕ) (number : ℕ) → (number_of name ≡ Some number) ↔ (name_of number ≡ Some name)

abbrev pub AreSmall : Type 0
AreSmall = (name : List ℕ) (number : ℕ) → number_of name ≡ Some number → number < TABLE_LIMIT

named_small : EachWay → AreSmall → (nr : ℕ) (name : Option (List ℕ)) → name_of nr ≡ name
    → is_named_needed name ≡ true → nr < TABLE_LIMIT
named_small each small nr None is needed = absurd cc
named_small each small nr (Some name) is needed = small name nr ((each name nr).1 is)

needed_small : EachWay → AreSmall → (nr : ℕ) → is_needed nr ≡ true → nr < TABLE_LIMIT
unfolding is_needed
needed_small each small nr needed = named_small each small nr (name_of nr) refl needed

allowed_small : EachWay → AreSmall → (learned : Learned) (history : List Sighting) (wanted : Wanted)
    (call : SysCall) → IsSummary learned history → is_allowed history wanted call ≡ true
    → call.nr < TABLE_LIMIT
allowed_small each small learned history wanted call is allowed =
    grind (arith, common_steps, needed_small each small call.nr, is.of_table call.nr)

allows_below : (learned : Learned) (history : List Sighting) (wanted : Wanted) (call : SysCall)
    → IsSummary learned history → ltb call.nr TABLE_LIMIT ≡ true
    → allows learned wanted call.nr call.args ≡ is_allowed history wanted call
unfolding takes_any
allows_below learned history wanted call is below =
    rw (below, is.seen call.nr (ltb-true call.nr TABLE_LIMIT below))
    (agrees learned history call.args wanted.args (wanted.needed && is_needed call.nr) call.nr is)

hits_below : (learned : Learned) (nr : ℕ) (args : List ℕ) → ltb nr TABLE_LIMIT ≡ false
    → hits learned nr args ≡ false
hits_below learned nr args above =
    let far : TABLE_LIMIT ≤ nr = ltb-false nr TABLE_LIMIT above in
    rw (
      ne_eqb 16 nr (λ e. absurd (omega arith)),
      ne_eqb 41 nr (λ e. absurd (omega arith)),
      ne_eqb 72 nr (λ e. absurd (omega arith)),
      ne_eqb 135 nr (λ e. absurd (omega arith)),
      ne_eqb 157 nr (λ e. absurd (omega arith)),
    ) refl

and_false : (b : Bool) → (b && false) ≡ false
and_false true = refl
and_false false = refl

allows_is : EachWay → AreSmall → (learned : Learned) (history : List Sighting) (wanted : Wanted)
    (call : SysCall) → IsSummary learned history
    → allows learned wanted call.nr call.args ≡ is_allowed history wanted call
allows_is each small learned history wanted call is =
    elim (ltb call.nr TABLE_LIMIT) as (λ b. ltb call.nr TABLE_LIMIT ≡ b
    → allows learned wanted call.nr call.args ≡ is_allowed history wanted call) [
      | true ↦ λ below. allows_below learned history wanted call is below
      | false ↦ λ above. rw (above, hits_below learned call.nr call.args above, and_false wanted.args)
          (sym (not_true (is_allowed history wanted call) (λ allowed.
          let far = ltb-false call.nr TABLE_LIMIT above in
          let near = allowed_small each small learned history wanted call is allowed in
          absurd (omega arith))))
    ] refl

native : (x32 allowed : Bool) (kill d : Decision) → (allowed ≡ true → x32 ≡ false)
    → cond x32 (value_of kill) (value_of (cond allowed Allow d))
    ≡ cond allowed (value_of Allow) (cond x32 (value_of kill) (value_of d))
native true true kill d given = absurd (let e = given refl in cc)
native true false kill d given = refl
native false true kill d given = refl
native false false kill d given = refl

any_arch : (native allowed : Bool) (one other kill allow : ℕ) → one ≡ cond allowed allow other
    → cond native one kill ≡ cond (native && allowed) allow (cond native other kill)
any_arch true allowed one other kill allow is = is
any_arch false allowed one other kill allow is = refl

pub means : EachWay → AreSmall → (learned : Learned) (history : List Sighting) (wanted : Wanted)
    (base : Profile) (entries : List Entry) → IsSummary learned history
    → entries ≡ learned_entries learned wanted ++ base.entries → (call : SysCall)
    → meaning (record { default = base.default; entries = entries }) call
    ≡ learned_meaning history wanted base call
unfolding meaning chosen
means each small learned history wanted base entries is made call =
    let allowed = is_allowed history wanted call in
    let decided : decision_of entries base.default call.nr call
    ≡ cond allowed Allow (decision_of base.entries base.default call.nr call)
    = ap (λ es. decision_of es base.default call.nr call) made
    ∙ entries_first learned wanted base.entries base.default call.nr call
    ∙ ap (λ b. cond b Allow (decision_of base.entries base.default call.nr call))
    (allows_is each small learned history wanted call is) in
    let inside : allowed ≡ true → leb 0x40000000 call.nr ≡ false = λ there.
    let near = allowed_small each small learned history wanted call is there in
    not_leb 0x40000000 call.nr (omega arith) in
    any_arch (eqb call.arch 0xc000003e) allowed _ _ _ _
    (ap (λ d. cond (leb 0x40000000 call.nr) (value_of KillProcess) (value_of d)) decided
    ∙ native (leb 0x40000000 call.nr) allowed KillProcess
    (decision_of base.entries base.default call.nr call) inside)
