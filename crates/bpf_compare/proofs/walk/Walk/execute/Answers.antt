use Rattle.std.proofs.Common.{true, false, inl, inr}
use Rattle.std.proofs.lemmas.Option.{slice_get-get_or}
use Rattle.bpf_compare.specs.Known.{answer_on}
use Rattle.bpf_compare.specs.declared.step.After.TheVariants.{Goes, Holds, Fails, Asks, Skips, Ends}
use Rattle.bpf_compare.proofs.Walks.{turned, followed, asked, true_or_false}
use Rattle.bpf_compare.proofs.walk.Walk.execute.Goals as goal

pub step-requires : goal.step-requires
step-requires c =
    (c.insns-code.ensures.sound.places c.args.self.now.registers.place _
    (slice_get-get_or c.insns-code.result.now c.args.self.now.registers.place _
    c.if-self-code.false)).number

pub returns-in-Goes : goal.returns-in-Goes
returns-in-Goes c = rw (← c.insns-code.ensures.same) (λ call is follows.
    followed c.next-self.result _ c.next-self.ensures
    (turned (Goes c.in-Goes.a c.in-Goes.x) c.step.new.words
    (c.sound_code_runs.ensures.never_stuck _ call c.insns-code.ensures.sound) c.if-self-code.false
    (λ s next. c.in-Goes.ensures.follows call s next is) follows) follows.among)

pub returns-in-Holds : goal.returns-in-Holds
returns-in-Holds c = rw (← c.insns-code.ensures.same) (λ call is follows.
    followed c.skip-skip_jt.result _ c.skip-skip_jt.ensures
    (turned Holds c.step.new.words (c.sound_code_runs.ensures.never_stuck _ call c.insns-code.ensures.sound)
    c.if-self-code.false
    (λ s next. c.in-Holds.ensures.follows call s next is) follows) follows.among)

pub returns-in-Fails : goal.returns-in-Fails
returns-in-Fails c = rw (← c.insns-code.ensures.same) (λ call is follows.
    followed c.skip-skip_jf.result _ c.skip-skip_jf.ensures
    (turned Fails c.step.new.words (c.sound_code_runs.ensures.never_stuck _ call c.insns-code.ensures.sound)
    c.if-self-code.false
    (λ s next. c.in-Fails.ensures.follows call s next is) follows) follows.among)

pub returns-in-Skips : goal.returns-in-Skips
returns-in-Skips c = rw (← c.insns-code.ensures.same) (λ call is follows.
    followed c.skip-self.result _ c.skip-self.ensures
    (turned Skips c.step.new.words (c.sound_code_runs.ensures.never_stuck _ call c.insns-code.ensures.sound)
    c.if-self-code.false
    (λ s next. c.in-Skips.ensures.follows call s next is) follows) follows.among)

pub returns-in-Ends : goal.returns-in-Ends
returns-in-Ends c = rw (← c.insns-code.ensures.same) (λ call is follows. (
  turned (Ends c.in-Ends.value) c.step.new.words
      (c.sound_code_runs.ensures.never_stuck _ call c.insns-code.ensures.sound) c.if-self-code.false
      (λ s next. c.in-Ends.ensures.follows call s next is) follows,
  follows.among,
))

pub returns-in-Holds-2 : goal.returns-in-Holds-2
returns-in-Holds-2 c = rw (← c.insns-code.ensures.same) (λ call is follows.
    let split = rw c.in-Holds-2.is at (c.in_ok-split-in-Asks.ensures call follows.among) in
    followed c.skip-skip_jt.result _ c.skip-skip_jt.ensures
    (asked c.insns-code.result.now call c.args.self.now.registers _ _ c.step.new.words _ true split.0
    (turned (Asks c.in-Asks.question) c.step.new.words
    (c.sound_code_runs.ensures.never_stuck _ call c.insns-code.ensures.sound) c.if-self-code.false
    (λ s next. c.in-Asks.ensures.follows call s next is) follows)) split.1)

pub returns-in-Fails-2 : goal.returns-in-Fails-2
returns-in-Fails-2 c = rw (← c.insns-code.ensures.same) (λ call is follows.
    let split = rw c.in-Fails-2.is at (c.in_ok-split-in-Asks.ensures call follows.among) in
    followed c.skip-skip_jf.result _ c.skip-skip_jf.ensures
    (asked c.insns-code.result.now call c.args.self.now.registers _ _ c.step.new.words _ false split.0
    (turned (Asks c.in-Asks.question) c.step.new.words
    (c.sound_code_runs.ensures.never_stuck _ call c.insns-code.ensures.sound) c.if-self-code.false
    (λ s next. c.in-Asks.ensures.follows call s next is) follows)) split.1)

pub returns-in-Both : goal.returns-in-Both
returns-in-Both c = rw (← c.insns-code.ensures.same) (λ call is follows.
    let split = rw c.in-Both.is at (c.in_ok-split-in-Asks.ensures call follows.among) in
    let comes = (turned (Asks c.in-Asks.question) c.step.new.words
    (c.sound_code_runs.ensures.never_stuck _ call c.insns-code.ensures.sound) c.if-self-code.false
    (λ s next. c.in-Asks.ensures.follows call s next is) follows) in
    elim (true_or_false (answer_on call c.in-Asks.question)) [
      | inl holds ↦ inl (followed c.skip-skip_jt.result _ c.skip-skip_jt.ensures
          (asked c.insns-code.result.now call c.args.self.now.registers _ _ c.step.new.words _ true holds
          comes) (split.0 holds))
      | inr fails ↦ inr (followed c.skip-skip_jf.result _ c.skip-skip_jf.ensures
          (asked c.insns-code.result.now call c.args.self.now.registers _ _ c.step.new.words _ false fails
          comes) (split.1 fails))
    ])
