use Rattle.std.proofs.Common.{inl, inr}
use Rattle.bpf_compare.specs.Known.{answer_on}
use Rattle.bpf_compare.proofs.Walks.{true_or_false}
use Rattle.bpf_compare.proofs.known.Known.ask.Goals as goal

pub returns-in_default-failed : goal.returns-in_default-failed
returns-in_default-failed c = λ call among. elim (true_or_false (answer_on call c.args.question)) [
  | inl holds ↦ absurd (c.in_default.ensures call among holds)
  | inr fails ↦ absurd (c.in_default-failed.ensures call among fails)
]

pub returns : goal.returns
returns c = λ call among.
    let counted = c.count_split.ensures call among in
    elim (true_or_false (answer_on call c.args.question)) [
      | inl holds ↦ inl (c.in_ok-narrow-4.ensures call counted holds (c.in-Some.ensures call among holds))
      | inr fails ↦ inr (c.in_ok-narrow-3.ensures call (c.in_ok-other.ensures call counted) fails
          (c.in-Some-failed-2.ensures call among fails))
    ]
