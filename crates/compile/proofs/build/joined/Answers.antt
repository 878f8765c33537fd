use Rattle.compile.proofs.Common.{ℕ, cond, refl, arith, SysCall, shown, holds_of, WayGives, told, Probe, Way}
use Rattle.compile.proofs.Reaching.{found_weaker, joined_way, straight_way, turned_way}
use Rattle.compile.proofs.build.joined.Goals as goal

pub returns-then-is_steady-clause-gives : goal.returns-then-is_steady-clause-gives
returns-then-is_steady-clause-gives c = λ call value gives a _.
    c.if-is_steady.ensures refl call (shown c.args.probe.now.base call) value c.max.result
    (joined_way c.args.probe.now.base c.args.code.now call (told c.args.probe.now call) c.args.yes c.args.no
    value c.max.result c.if-yes-no.true (omega (arith, c.max.ensures)) (omega (arith, c.max.ensures)) gives
    (shown c.args.probe.now.base call) (λ _. refl)) a

pub returns-then-probe-clause-gives : goal.returns-then-probe-clause-gives
returns-then-probe-clause-gives c =
    let probe : Probe = c.args.probe.now in
    let Branch : Way → Type 0 = λ way. (call : SysCall) (value : ℕ)
    → WayGives probe.base c.args.code.now call
    (cond (holds_of probe.test probe.k (shown probe.base call)) c.args.no c.args.yes) value
    → WayGives c.args.view c.branch-code.new.code call way value in
    let Wanted : Way → Type 0 = λ way. (call : SysCall) (value : ℕ)
    → WayGives probe.base c.args.code.now call (cond (told probe call) c.args.yes c.args.no) value
    → WayGives c.args.view c.branch-code.new.code call way value in
    found_weaker c.branch-code.result Branch Wanted (λ way gives call value leads. gives call value
    (turned_way probe.is_turned (holds_of probe.test probe.k (shown probe.base call)) probe.base
    c.args.code.now
    call c.args.yes c.args.no value c.if-probe.true leads))
    c.branch-code.ensures.gives

pub returns-else-probe-clause-gives : goal.returns-else-probe-clause-gives
returns-else-probe-clause-gives c =
    let probe : Probe = c.args.probe.now in
    let Branch : Way → Type 0 = λ way. (call : SysCall) (value : ℕ)
    → WayGives probe.base c.args.code.now call
    (cond (holds_of probe.test probe.k (shown probe.base call)) c.args.yes c.args.no) value
    → WayGives c.args.view c.branch-code-else-probe.new.code call way value in
    let Wanted : Way → Type 0 = λ way. (call : SysCall) (value : ℕ)
    → WayGives probe.base c.args.code.now call (cond (told probe call) c.args.yes c.args.no) value
    → WayGives c.args.view c.branch-code-else-probe.new.code call way value in
    found_weaker c.branch-code-else-probe.result Branch Wanted (λ way gives call value leads. gives call value
    (straight_way probe.is_turned (holds_of probe.test probe.k (shown probe.base call)) probe.base
    c.args.code.now call c.args.yes c.args.no value c.if-probe.false leads))
    c.branch-code-else-probe.ensures.gives
