use Rattle.compile.proofs.Common.{◌≡◌, ℕ, ◌-◌, ◌∙◌, List, length, take, drop, subst, ap, sym, arith}
use Rattle.compile.proofs.Common.{take_all, Insn, NOWHERE, SysCall, first_value, WayGives, Way, Rule}
use Rattle.compile.proofs.Restricting.{first_parted, left_some}
use Rattle.compile.proofs.Reaching.{found_weaker}
use Rattle.compile.proofs.tree.+parts.Goals as goal

pub returns-clause-gives : goal.returns-clause-gives
returns-clause-gives t c =
    let old : List Insn = c.args.code.now in
    let mid : List Insn = c.parts.new.code in
    let new : List Insn = c.parts-2.new.code in
    let rules : List Rule = c.args.rules.now in
    let at : ℕ = c.if-many-gt-FEW.middle in
    let back : c.cut.new.self ≡ old =
    c.cut.ensures ∙ ap (λ n. take n c.build.new.code) c.len-start.ensures
    ∙ c.in_ok-way.ensures.builds.extends old (take_all (length old) old (omega arith)) in
    let Rest : Way → Type 0 = λ way. (call : SysCall) (other : ℕ)
    → WayGives NOWHERE c.cut.new.self call c.args.last other
    → WayGives NOWHERE mid call way (first_value (take (length rules - at) (drop at rules)) other call) in
    let Front : Way → Type 0 = λ way. (call : SysCall) (value : ℕ)
    → WayGives NOWHERE mid call c.in-Some-2.rest value
    → WayGives NOWHERE new call way (first_value (take at rules) value call) in
    let Wanted : Way → Type 0 = λ way. (call : SysCall) (other : ℕ)
    → WayGives NOWHERE old call c.args.last other
    → WayGives NOWHERE new call way (first_value rules other call) in
    found_weaker c.parts-2.result Front Wanted (λ way gives call other last.
    let P : ℕ → Type 0 = λ value. WayGives NOWHERE new call way value in
    subst P (first_parted rules at other call)
    (gives call (first_value (take (length rules - at) (drop at rules)) other call)
    (left_some c.in_ok-rest.field-0 c.in-Some-2.rest Rest c.in-Some-2.is c.in_ok-rest.ensures.gives call other
    (subst (λ code. WayGives NOWHERE code call c.args.last other) (sym back) last))))
    c.parts-2.ensures.gives
