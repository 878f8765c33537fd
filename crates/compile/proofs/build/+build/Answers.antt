use Rattle.compile.proofs.Common.{◌≡◌, ℕ, List, ◌-◌, length, take, drop, subst, sym, ◌∙◌, Insn, NOWHERE}
use Rattle.compile.proofs.Common.{SysCall, cond, atom_holds, first_value, WayGives, told, Atom, Probe, Way}
use Rattle.compile.proofs.Common.{Rule}
use Rattle.compile.proofs.Restricting.{first_parted, left_some}
use Rattle.compile.proofs.Reaching.{left_way, chosen_way, found_weaker, way_kept}
use Rattle.compile.proofs.Testing.{told_is}
use Rattle.compile.proofs.build.+build.Goals as goal

pub returns-in-Some-boundary-clause-gives : goal.returns-in-Some-boundary-clause-gives
returns-in-Some-boundary-clause-gives t c =
    let mid : List Insn = c.build.new.code in
    let new : List Insn = c.build-in-Some-boundary.new.code in
    let rules : List Rule = c.args.rules.now in
    let at : ℕ = c.in-Some-boundary.at in
    let Rest : Way → Type 0 = λ way. (call : SysCall) (other : ℕ)
    → WayGives NOWHERE c.args.code.now call c.args.last other
    → WayGives NOWHERE mid call way (first_value (take (length rules - at) (drop at rules)) other call) in
    let Front : Way → Type 0 = λ way. (call : SysCall) (value : ℕ)
    → WayGives NOWHERE mid call c.in-Some-2.rest value
    → WayGives c.args.view new call way (first_value (take at rules) value call) in
    let Wanted : Way → Type 0 = λ way. (call : SysCall) (other : ℕ)
    → WayGives NOWHERE c.args.code.now call c.args.last other
    → WayGives c.args.view new call way (first_value rules other call) in
    found_weaker c.build-in-Some-boundary.result Front Wanted (λ way gives call other last.
    let P : ℕ → Type 0 = λ value. WayGives c.args.view new call way value in
    subst P (first_parted rules at other call) (gives call
    (first_value (take (length rules - at) (drop at rules)) other call)
    (left_some c.in_ok-rest.field-0 c.in-Some-2.rest Rest c.in-Some-2.is c.in_ok-rest.ensures.gives call
    other last)))
    c.build-in-Some-boundary.ensures.gives

pub returns-clause-gives : goal.returns-clause-gives
returns-clause-gives t c =
    let old : List Insn = c.args.code.now in
    let mid : List Insn = c.build-2.new.code in
    let both : List Insn = c.build-3.new.code in
    let new : List Insn = c.joined.new.code in
    let atom : Atom = c.in_ok-atom.atom in
    let probe : Probe = c.probe-probe.result in
    let rules : List Rule = c.args.rules.now in
    let no : Way = c.in-Some-3.no in
    let yes : Way = c.in-Some-4.yes in
    let Joined : Way → Type 0 = λ way. (call : SysCall) (value : ℕ)
    → WayGives probe.base both call (cond (told probe call) yes no) value
    → WayGives c.args.view new call way value in
    let Wanted : Way → Type 0 = λ way. (call : SysCall) (other : ℕ)
    → WayGives NOWHERE old call c.args.last other
    → WayGives c.args.view new call way (first_value rules other call) in
    let No : Way → Type 0 = λ way. (call : SysCall) (other : ℕ) → WayGives NOWHERE old call c.args.last other
    → WayGives probe.base mid call way (first_value c.as_slice.result.now other call) in
    let Yes : Way → Type 0 = λ way. (call : SysCall) (other : ℕ) → WayGives NOWHERE mid call c.args.last other
    → WayGives probe.base both call way (first_value c.as_slice-2.result.now other call) in
    found_weaker c.joined.result Joined Wanted (λ way joins call other last.
    let same : told probe call ≡ atom_holds atom call = told_is atom probe call c.probe-probe.ensures in
    joins call (first_value rules other call)
    (chosen_way probe.base both call (told probe call) yes no (first_value rules other call)
    (λ holds. left_way probe.base both call yes c.as_slice-2.result.now
    c.in_ok-left-2.left.items rules other c.as_slice-2.ensures.value
    (c.in_ok-left-2.ensures call other (sym same ∙ holds))
    (left_some c.in_ok-yes.field-0 yes Yes c.in-Some-4.is c.in_ok-yes.ensures.gives call other
    (way_kept old mid NOWHERE call c.args.last other c.in_ok-no.ensures.builds.keeps last)))
    (λ fails. way_kept mid both probe.base call no (first_value rules other call)
    c.in_ok-yes.ensures.builds.keeps (left_way probe.base mid call no c.as_slice.result.now
    c.in_ok-left.left.items rules other c.as_slice.ensures.value
    (c.in_ok-left.ensures call other (sym same ∙ fails))
    (left_some c.in_ok-no.field-0 no No c.in-Some-3.is c.in_ok-no.ensures.gives call other last)))))
    c.joined.ensures.gives
