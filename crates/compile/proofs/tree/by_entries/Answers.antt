use Rattle.compile.proofs.Common.{ℕ, ◌+◌, ◌*◌, ◌^◌, ◌<◌, ◌≤◌, List, Option, IfSome, length, subst, arith}
use Rattle.compile.proofs.Common.{ap, ◌∙◌, ◌≡◌, IfOk-weaker, slice_index, Insn, SysCall, IsCall, Way}
use Rattle.compile.proofs.Common.{WayGives, NOWHERE, Decision, Entry, value_of, decision_of, GivesAlways}
use Rattle.compile.proofs.Common.{conditions_at, IsSearched, value_for, Vec, AreAsked, steps_at, first_value}
use Rattle.compile.proofs.Common.{size_of_rules, Rule, refl, take, take_all, Global, Point, Builds}
use Rattle.compile.specs.Points.IsSearched.{balanced}
use Rattle.compile.proofs.Diagrams.{told_way}
use Rattle.compile.proofs.Restricting.{left_some}
use Rattle.compile.proofs.Settling.{chain_steps, kept_steps, search_steps}
use Rattle.compile.proofs.Words.{GivesAlways-more}
use Rattle.compile.proofs.tree.by_entries.Goals as goal

told : (c : goal.Joined-points-4) (call : SysCall) → IsCall call → (most : ℕ) → c.in-Some.way.most ≤ most
    → GivesAlways c.parts.new.code call c.in-Some.way.at
    (value_of (decision_of c.args.entries.now c.args.last.now c.args.nr call)) most
told c call is_call most larger =
    let Found : Way → Type 0 = λ way. (at : SysCall) (other : ℕ)
    → WayGives NOWHERE c.value-2.new.self at (record { at = c.in_ok-at.at; most = 1 }) other
    → WayGives NOWHERE c.parts.new.code at way (first_value c.as_slice.result.now other at) in
    told_way c.parts.new.code c.in-Some.way call c.as_slice.result.now c.ordered-rules.result.items
    c.value.result (value_of c.args.last.now)
    (value_of (decision_of c.args.entries.now c.args.last.now c.args.nr call)) most
    c.as_slice.ensures.value c.value.ensures (c.ordered-rules.ensures call (value_of c.args.last.now)
    ∙ c.in_ok-named.ensures.same call c.args.last.now is_call) larger
    (left_some c.in_ok-found.found c.in-Some.way Found c.in-Some.is c.in_ok-found.ensures.gives call
    c.value.result (λ a _. c.in_ok-at.ensures.gives call a))

pub returns-then-is_good-clause-gives : goal.returns-then-is_good-clause-gives
returns-then-is_good-clause-gives c = λ call is_call.
    told c call is_call (steps_at c.args.entries.now c.args.nr)
    (omega (arith, c.if-is_good.ensures.each refl, c.counts-counts.ensures.conditions))

pub returns-then-is_good-clause-balanced : goal.returns-then-is_good-clause-balanced
returns-then-is_good-clause-balanced c = λ call index digits is_call asked below.
    told c call is_call (1 + 12 * digits)
    (kept_steps c.in_ok-points.points c.is_some.result (conditions_at c.args.entries.now c.args.nr) digits
    c.in-Some.way.most c.is_some.ensures (λ none. c.in_ok-points.ensures.left none index asked)
    (omega (arith, c.if-is_good.ensures.each refl, c.counts-counts.ensures.conditions))
    (λ is. c.if-is_good.ensures.balanced refl is digits
    (omega (arith, below, c.counts-counts.ensures.conditions))) below)

pub returns-in-Some-points-clause-builds : goal.returns-in-Some-points-clause-builds
returns-in-Some-points-clause-builds c =
    let old : List Insn = c.args.code.now in
    let back : c.cut.new.self ≡ old =
    c.cut.ensures ∙ ap (λ n. take n c.parts.new.code) c.len-start.ensures
    ∙ c.in_ok-found.ensures.builds.extends old
    (c.in_ok-at.ensures.builds.extends old (take_all (length old) old (omega arith))) in
    subst (λ code. Builds code c.search.new.code) back c.search.ensures.builds

pub returns-in-Some-points-clause-balanced : goal.returns-in-Some-points-clause-balanced
returns-in-Some-points-clause-balanced c =
    let entries : List Entry = c.args.entries.now in
    let new : List Insn = c.search.new.code in
    let points : List Point = c.in-Some-points.points.items in
    let slice : List Point = c.as_slice-in-Some-points.result.now in
    let index : ℕ = c.in-Some-points.index in
    let other : ℕ = c.value-in-Some-points.result in
    let count : ℕ = conditions_at entries c.args.nr in
    let value : SysCall → ℕ = λ call. value_of (decision_of entries c.args.last.now c.args.nr call) in
    let Same : Option (ℕ × Vec Point Global) → Type 0 = λ found. IfSome found (λ it.
    (last : Decision) (call : SysCall) → value_for it.1.items (slice_index call.args it.0) (value_of last)
    ≡ value_of (decision_of entries last c.args.nr call)) in
    let Many : Option (ℕ × Vec Point Global) → Type 0 = λ found.
    IfSome found (λ it. length it.1.items ≤ count) in
    let More : Option (ℕ × Vec Point Global) → Type 0 = λ found. IfSome found (λ _. 6 < count) in
    let same = subst Same c.in-Some-points.is c.in_ok-points.ensures.same in
    let fewer : length points ≤ count = subst Many c.in-Some-points.is c.in_ok-points.ensures.many in
    let more : 6 < count = subst More c.in-Some-points.is c.in_ok-points.ensures.more in
    let Given : ℕ → Type 0 = λ at. (call : SysCall) (most : ℕ) → IsCall call → IsSearched (length slice) most
    → GivesAlways new call at (value_for slice (slice_index call.args index) other) most in
    let Wanted : ℕ → Type 0 = λ at. (call : SysCall) (one digits : ℕ) → IsCall call
    → AreAsked one entries c.args.nr → count < 2 ^ digits
    → GivesAlways new call at (value call) (1 + 12 * digits) in
    IfOk-weaker c.search.result Given Wanted (λ at gives call one digits is_call asked below.
    let arg : ℕ = slice_index call.args index in
    let found : value_for slice arg other ≡ value call =
    ap (λ ps. value_for ps arg other) c.as_slice-in-Some-points.ensures.value
    ∙ ap (λ v. value_for points arg v) c.value-in-Some-points.ensures ∙ same c.args.last.now call in
    subst (λ v. GivesAlways new call at v (1 + 12 * digits)) found (gives call (1 + 12 * digits) is_call
    (balanced digits (omega (arith, ap length c.as_slice-in-Some-points.ensures.value, fewer, below))
    (search_steps count digits more below)))) c.search.ensures.gives

pub returns-clause-gives : goal.returns-clause-gives
returns-clause-gives c =
    let new : List Insn = c.plain.new.code in
    let slice : List Rule = c.as_slice-in-None.result.now in
    let Given : ℕ → Type 0 = λ at. (call : SysCall) (other most : ℕ) → 0 < most
    → GivesAlways c.value-in-None-2.new.self call c.in_ok-place-in-None.place other most
    → GivesAlways new call at (first_value slice other call) (most + size_of_rules slice) in
    let Wanted : ℕ → Type 0 = λ at. (call : SysCall) → IsCall call
    → GivesAlways new call at (value_of (decision_of c.args.entries.now c.args.last.now c.args.nr call))
    (steps_at c.args.entries.now c.args.nr) in
    IfOk-weaker c.plain.result Given Wanted (λ at gives call is_call.
    let same : first_value slice c.value-in-None.result call
    ≡ value_of (decision_of c.args.entries.now c.args.last.now c.args.nr call) =
    ap (λ rs. first_value rs c.value-in-None.result call) c.as_slice-in-None.ensures.value
    ∙ ap (λ v. first_value c.in_ok-rules-in-None.rules.items v call) c.value-in-None.ensures
    ∙ c.in_ok-rules-in-None.ensures.same call c.args.last.now is_call in
    let P : ℕ → Type 0 = λ value. GivesAlways new call at value (steps_at c.args.entries.now c.args.nr) in
    subst P same (GivesAlways-more new call at (first_value slice c.value-in-None.result call)
    (1 + size_of_rules slice)
    (steps_at c.args.entries.now c.args.nr) (gives call c.value-in-None.result 1 (omega arith)
    (c.in_ok-place-in-None.ensures.gives call))
    (omega (arith, c.in_ok-rules-in-None.ensures.size, ap size_of_rules c.as_slice-in-None.ensures.value))))
    c.plain.ensures.gives

pub returns-clause-balanced : goal.returns-clause-balanced
returns-clause-balanced c =
    let new : List Insn = c.plain.new.code in
    let entries : List Entry = c.args.entries.now in
    let count : ℕ = conditions_at entries c.args.nr in
    let Chained : ℕ → Type 0 = λ at. (call : SysCall) → IsCall call
    → GivesAlways new call at (value_of (decision_of entries c.args.last.now c.args.nr call))
    (steps_at entries c.args.nr) in
    let Wanted : ℕ → Type 0 = λ at. (call : SysCall) (index digits : ℕ) → IsCall call
    → AreAsked index entries c.args.nr → count < 2 ^ digits
    → GivesAlways new call at (value_of (decision_of entries c.args.last.now c.args.nr call))
    (1 + 12 * digits) in
    IfOk-weaker c.plain.result Chained Wanted (λ at chained call index digits is_call asks below.
    GivesAlways-more new call at (value_of (decision_of entries c.args.last.now c.args.nr call))
    (steps_at entries c.args.nr) (1 + 12 * digits) (chained call is_call)
    (chain_steps count digits (c.in_ok-points.ensures.left c.in-None.is index asks) below))
    (returns-clause-gives c)
