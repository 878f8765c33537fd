use Rattle.std.proofs.Common.{◌∙◌, ap, arith, refl, subst}
use Rattle.action.specs.Verdict.{performs_of}
use Rattle.call_data.specs.declared.sys_call.SysCall.{SysCall}
use Rattle.runtime_cell.specs.declared.acts.Act.TheVariants as act
use Rattle.verdict.specs.Stack.{IsJudged}
use Rattle.runtime_cell.specs.Cell.{Cell, filters_of, step_in}
use Rattle.runtime_cell.specs.Keeps.{next_by}
use Rattle.runtime_cell.specs.Outcome.{IsNext, code_at, end_of, entry_of, install_call, installed}
use Rattle.runtime_cell.specs.Outcome.Next.{Over}
use Rattle.runtime_cell.proofs.Kept.{act_here}
use Rattle.runtime_cell.proofs.cell.Cell.act.Goals as goal

pub returns-in-Some-Call : goal.returns-in-Some-Call
returns-in-Some-Call c =
    subst (λ (s : Cell). IsNext (filters_of s) s.making.label.attempt (step_in s)
    (next_by c.call_act.result (step_in s))) c.self.view_is
    (act_here c.self.inside.stack.filters c.self.inside.start c.self.inside.label.attempt c.self.inside.script
    c.steps.result.now c.self.inside.entries.items _ _ _ c.call_act.result
    c.steps.ensures.value c.in-Some-Call.ensures.lookup.0
    (omega (arith, c.len.ensures)) c.in-Some-Call.ensures.lookup.1 c.in-Some-Call.field-0-is
    (c.judge.result, c.judge.ensures, c.call_act.ensures _))

pub returns-in-Some-Exit : goal.returns-in-Some-Exit
returns-in-Some-Exit c =
    subst (λ (s : Cell). IsNext (filters_of s) s.making.label.attempt (step_in s) (Over c.in-Some-Exit.code))
    c.self.view_is
    (act_here c.self.inside.stack.filters c.self.inside.start c.self.inside.label.attempt c.self.inside.script
    c.steps.result.now c.self.inside.entries.items _ _ _ (act.Over c.in-Some-Exit.code)
    c.steps.ensures.value c.in-Some-Exit.ensures.lookup.0
    (omega (arith, c.len.ensures)) c.in-Some-Exit.ensures.lookup.1 c.in-Some-Exit.field-0-is refl)

pub returns-in-Some-ExitByAttempt : goal.returns-in-Some-ExitByAttempt
returns-in-Some-ExitByAttempt c =
    subst (λ (s : Cell). IsNext (filters_of s) s.making.label.attempt (step_in s) (Over c.code_at.result))
    c.self.view_is
    (act_here c.self.inside.stack.filters c.self.inside.start c.self.inside.label.attempt c.self.inside.script
    c.steps.result.now c.self.inside.entries.items _ _ _ (act.Over c.code_at.result)
    c.steps.ensures.value c.in-Some-ExitByAttempt.ensures.lookup.0
    (omega (arith, c.len.ensures)) c.in-Some-ExitByAttempt.ensures.lookup.1
    c.in-Some-ExitByAttempt.field-0-is
    (ap Over (c.code_at.ensures ∙ ap (λ codes. code_at codes c.self.inside.label.attempt)
    c.as_slice.ensures.value)))

pub returns-in-Some-Install : goal.returns-in-Some-Install
returns-in-Some-Install c =
    let verdict = c.judge-verdict.result in
    let filter = c.in-Some-Install.filter in
    let on_error = c.in-Some-Install.on_error in
    subst (λ (s : Cell). IsNext (filters_of s) s.making.label.attempt (step_in s)
    (next_by c.install_act.result (step_in s))) c.self.view_is
    (act_here c.self.inside.stack.filters c.self.inside.start c.self.inside.label.attempt c.self.inside.script
    c.steps.result.now c.self.inside.entries.items _ _ _ c.install_act.result
    c.steps.ensures.value c.in-Some-Install.ensures.lookup.0
    (omega (arith, c.len.ensures)) c.in-Some-Install.ensures.lookup.1 c.in-Some-Install.field-0-is (
      verdict,
      subst (λ (call : SysCall). IsJudged c.self.inside.stack.filters call verdict) c.install_call.ensures
          c.judge-verdict.ensures,
      c.install_act.ensures filter on_error
          ∙ ap (installed filter (entry_of install_call verdict) (end_of verdict on_error) on_error
          (performs_of verdict.action)) c.has_place.ensures,
    ))
