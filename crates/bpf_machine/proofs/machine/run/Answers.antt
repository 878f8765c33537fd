use Rattle.bpf_machine.proofs.LongestRun.{run_at_most}
use Rattle.bpf_machine.proofs.Progress.{progress}
use Rattle.bpf_machine.proofs.Simulation.{first_turn, turn_leads}
use Rattle.bpf_machine.specs.declared.step.After.TheVariants.{Goes, Holds, Fails, Skips, Ends}
use Rattle.bpf_machine.proofs.machine.run.Goals as goal

pub steps-init : goal.steps-init
steps-init c =
    first_turn c.insns-code.result.now c.args.call.now _ c.walks_stay_inside.ensures.forward
    c.walks_stay_inside.ensures.inside c.insns-code.ensures.sound

pub steps-preserved-in-Goes : goal.steps-preserved-in-Goes
steps-preserved-in-Goes c =
    rw c.next-registers.ensures (turn_leads (Goes c.in-Goes.a c.in-Goes.x) c.step.new.words
    c.insns-code.ensures.sound c.steps.invariant
    (λ s next. c.in-Goes.ensures.follows c.args.call.now s next c.to_bytes-data.ensures)).turn

pub steps-preserved-in-Holds : goal.steps-preserved-in-Holds
steps-preserved-in-Holds c =
    rw (c.skip-registers.ensures, c.from.ensures)
    (turn_leads Holds c.step.new.words c.insns-code.ensures.sound c.steps.invariant
    (λ s next. c.in-Holds.ensures.follows c.args.call.now s next c.to_bytes-data.ensures)).turn

pub steps-preserved-in-Fails : goal.steps-preserved-in-Fails
steps-preserved-in-Fails c =
    rw (c.skip-registers-in-Fails.ensures, c.from-in-Fails.ensures)
    (turn_leads Fails c.step.new.words c.insns-code.ensures.sound c.steps.invariant
    (λ s next. c.in-Fails.ensures.follows c.args.call.now s next c.to_bytes-data.ensures)).turn

-- where k instructions are skipped
pub steps-preserved : goal.steps-preserved
steps-preserved c =
    rw c.skip-registers-in-Skips.ensures (turn_leads Skips c.step.new.words c.insns-code.ensures.sound
    c.steps.invariant
    (λ s next. c.in-Skips.ensures.follows c.args.call.now s next c.to_bytes-data.ensures)).turn

pub returns-in-Ends-clause-run : goal.returns-in-Ends-clause-run
returns-in-Ends-clause-run c =
    rw (← c.insns-code.ensures.same) (turn_leads (Ends c.in-Ends.value) c.step.new.words
    c.insns-code.ensures.sound c.steps.invariant
    (λ s next. c.in-Ends.ensures.follows c.args.call.now s next c.to_bytes-data.ensures))

pub returns-in-Ends-clause-longest : goal.returns-in-Ends-clause-longest
returns-in-Ends-clause-longest c = λ places longest.
    run_at_most c.args.filter.now c.args.call.now _ _ places (returns-in-Ends-clause-run c) longest

pub returns-in-Ends-clause-never_stuck : goal.returns-in-Ends-clause-never_stuck
returns-in-Ends-clause-never_stuck c =
    rw (← c.insns-code.ensures.same) (λ n s.
    progress c.insns-code.result.now c.args.call.now n s c.insns-code.ensures.sound
    c.steps.invariant.stay)
