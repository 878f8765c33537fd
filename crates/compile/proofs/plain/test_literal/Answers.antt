use Rattle.compile.proofs.Common.{ℕ, ◌+◌, cond, true, false, List, on_ok_weaker, Insn, SysCall, GivesAlways}
use Rattle.compile.proofs.Common.{literal_holds, size_of_literal}
use Rattle.compile.proofs.Building.{front_is}
use Rattle.compile.proofs.Links.{known_gives, unwanted_gives, wanted_gives}
use Rattle.compile.proofs.plain.test_literal.Goals as goal

pub returns-then-holds-clause-gives : goal.returns-then-holds-clause-gives
returns-then-holds-clause-gives c = λ call value most gives.
    known_gives c.args.code.now call c.args.literal.now c.in-Known.holds true c.args.hit c.args.miss value
    most
    c.in-Known.is c.if-holds.true gives

pub returns-else-holds-clause-gives : goal.returns-else-holds-clause-gives
returns-else-holds-clause-gives c = λ call value most gives.
    known_gives c.args.code.now call c.args.literal.now c.in-Known.holds false c.args.hit c.args.miss value
    most
    c.in-Known.is c.if-holds.false gives

pub returns-then-wanted-clause-gives : goal.returns-then-wanted-clause-gives
returns-then-wanted-clause-gives c =
    let Wanted : ℕ → Type 0 = λ at. (call : SysCall) (value most : ℕ)
    → GivesAlways c.args.code.now call (cond (literal_holds c.args.literal.now call) c.args.hit c.args.miss)
    value most → GivesAlways c.ask.new.code call at value (most + size_of_literal c.args.literal.now) in
    front_is Wanted c.ask.new.code c.ask.result c.ask.ensures.at
    (on_ok_weaker c.ask.result (λ gives call value most.
    wanted_gives c.args.code.now c.ask.new.code call c.args.literal.now c.in-Asked.atom c.in-Asked.wanted
    c.args.hit c.args.miss _ value most c.in-Asked.is c.if-wanted.true (gives call value most))
    c.ask.ensures.gives)

pub returns-else-wanted-clause-gives : goal.returns-else-wanted-clause-gives
returns-else-wanted-clause-gives c =
    let new : List Insn = c.ask-in-Asked.new.code in
    let Wanted : ℕ → Type 0 = λ at. (call : SysCall) (value most : ℕ)
    → GivesAlways c.args.code.now call (cond (literal_holds c.args.literal.now call) c.args.hit c.args.miss)
    value most → GivesAlways new call at value (most + size_of_literal c.args.literal.now) in
    front_is Wanted new c.ask-in-Asked.result c.ask-in-Asked.ensures.at
    (on_ok_weaker c.ask-in-Asked.result (λ gives call value most.
    unwanted_gives c.args.code.now new call c.args.literal.now c.in-Asked.atom c.in-Asked.wanted
    c.args.hit c.args.miss _ value most c.in-Asked.is c.if-wanted.false (gives call value most))
    c.ask-in-Asked.ensures.gives)
