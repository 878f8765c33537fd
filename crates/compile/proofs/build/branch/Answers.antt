use Rattle.compile.proofs.Common.{ℕ, ◌+◌, ◌-◌, Bool, List, cond, refl, subst, sym, arith, Insn, SysCall}
use Rattle.compile.proofs.Common.{shown, holds_of, Gives, GivesWith, WayGives, Probe, View, Way}
use Rattle.compile.specs.Ways.{taken}
use Rattle.compile.proofs.Building.{gives_more}
use Rattle.compile.proofs.Restricting.{left_some}
use Rattle.compile.proofs.Reaching.{either_nearer}
use Rattle.compile.proofs.build.branch.Goals.{in-Some-twin, in-None+in_ok-jump-in-None+in_ok-steps-in-None}
use Rattle.compile.proofs.build.branch.Goals as goal

pub returns-in-Some-checked_add-2-clause-gives : goal.returns-in-Some-checked_add-2-clause-gives
returns-in-Some-checked_add-2-clause-gives c = λ call value gives a has.
    let probe : Probe = c.args.probe.now in
    let holds : Bool = holds_of probe.test probe.k (shown probe.base call) in
    let NearMiss : Way → Type 0 = λ near. (at : SysCall) (view : View) (v : ℕ)
    → WayGives view c.args.code.now at c.args.miss v → WayGives view c.nearer.new.code at near v in
    let NearHit : Way → Type 0 = λ near. (at : SysCall) (view : View) (v : ℕ)
    → WayGives view c.nearer.new.code at c.args.hit v → WayGives view c.nearer-2.new.code at near v in
    let both : GivesWith probe.base c.nearer-2.new.code call
    (cond holds c.in-Some-2.hit.at c.in-Some.miss.at) value c.max.result =
    either_nearer c.args.code.now c.nearer.new.code c.nearer-2.new.code probe.base call value
    holds c.args.hit c.args.miss c.in-Some-2.hit c.in-Some.miss c.max.result
    c.in_ok-miss.ensures.builds.keeps c.in_ok-hit.ensures.builds.keeps
    (left_some c.in_ok-miss.field-0 c.in-Some.miss NearMiss c.in-Some.is c.in_ok-miss.ensures.gives call
    probe.base value)
    (left_some c.in_ok-hit.field-0 c.in-Some-2.hit NearHit c.in-Some-2.is c.in_ok-hit.ensures.gives call
    probe.base value)
    (omega (arith, c.max.ensures)) (omega (arith, c.max.ensures)) gives in
    let Tests : List Insn → Way → Type 0 = λ code way. (v most : ℕ)
    → Gives c.nearer-2.new.code call (taken probe call c.in-Some-2.hit.at c.in-Some.miss.at)
    (shown probe.base call) v most
    → GivesWith c.args.view code call way.at v (most + 1 + way.most) in
    let tests : Tests c.match-twin.code c.match-twin.way' = elim c.match-twin.branch [
      | in-Some-twin w ↦
          subst (λ code. Tests code c.match-twin.way') (sym w.code-is)
          (subst (λ way. Tests c.nearer-2.new.code way) (sym w.way'-is)
          (left_some c.twin.result w.in-Some-twin.way (λ way. (at : SysCall) (v most : ℕ)
          → Gives c.nearer-2.new.code at (taken probe at c.in-Some-2.hit.at c.in-Some.miss.at)
          (shown probe.base at) v most → GivesWith c.args.view c.nearer-2.new.code at way.at v
          (most + 1 + way.most)) w.in-Some-twin.is c.twin.ensures.gives call))
      | in-None+in_ok-jump-in-None+in_ok-steps-in-None w ↦
          subst (λ code. Tests code c.match-twin.way') (sym w.code-is)
          (subst (λ way. Tests w.bring.new.code way) (sym w.way'-is) (λ v most leads.
          subst (λ n. GivesWith c.args.view w.bring.new.code call (n - 1) v
          (most + 1 + w.in_ok-steps-in-None.steps)) (sym w.len.ensures)
          (w.in_ok-steps-in-None.ensures.gives call v (most + 1)
          (w.in_ok-jump-in-None.ensures.gives call (shown probe.base call) v most leads))))
    ] in
    gives_more c.match-twin.code call c.match-twin.way'.at a value
    (c.max.result + 1 + c.match-twin.way'.most) _
    (tests value c.max.result (both (shown probe.base call) (λ _. refl)) a has)
    (omega (arith, c.in-Some-checked_add.ensures, c.in-Some-checked_add-2.ensures))
