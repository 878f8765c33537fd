use Rattle.std.proofs.Common.{[], refl}
use Rattle.action.specs.declared.action.Action.TheVariants.{Allow}
use Rattle.action.specs.declared.verdict.Verdict.{Verdict}
use Rattle.call_data.specs.declared.sys_call.SysCall.{SysCall}
use Rattle.verdict.specs.Stack.{IsJudged}
use Rattle.verdict.specs.Stack.IsVerdictOf.{of_none}
use Rattle.verdict.proofs.OneVerdict.{judged_on, judged_one}
use Rattle.verdict.proofs.laws.stacks_judge_every_call.Goals as goal

pub returns-clause-every : goal.returns-clause-every
returns-clause-every c = λ stack sound.
    let allow : Verdict = record { action = Allow; ret_data = 0 } in
    let judged : (call : SysCall) → (verdict : Verdict) × IsJudged stack call verdict = λ call.
    judged_on c.sound_code_runs.ensures.run c.ranks_are_an_order.ensures.below [] stack call allow sound
    ([], tt, of_none refl refl) in
    (λ call. (judged call).0, λ call. (judged call).1)

pub returns-clause-one : goal.returns-clause-one
returns-clause-one c = judged_one c.runs_are_determined.ensures.value
