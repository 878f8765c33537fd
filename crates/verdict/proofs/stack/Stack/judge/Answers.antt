use Rattle.std.proofs.Common.{ap, ◌∙◌}
use Rattle.verdict.specs.Stack.{Stacked}
use Rattle.verdict.proofs.stack.Stack.judge.Goals as goal

pub returns : goal.returns
returns c = rw (c.deref.ensures.value ∙ ap (λ (s : Stacked). s.filters) c.self.view_is) at c.judge_all.ensures
