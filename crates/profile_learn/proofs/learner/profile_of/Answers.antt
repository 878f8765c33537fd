use Rattle.std.proofs.Common.{ap, ◌∙◌, ◌++◌}
use Rattle.sys_table.specs.declared.calls.CallTable.TheVariants.{Linux5_8}
use Rattle.profile_learn.specs.Entries.{learned_entries}
use Rattle.profile_learn.proofs.Meanings.{means}
use Rattle.profile_learn.proofs.learner.profile_of.Goals as goal

pub returns : goal.returns
returns c = record {
  means = λ history is call.
      means c.names_and_numbers_agree.ensures.each_way (c.names_and_numbers_agree.ensures.in_table Linux5_8)
      c.args.learned.now history c.args.wanted c.args.base.now c.new.result is
      (c.new.ensures ∙ c.in_ok-entries-2.ensures.entries
      ∙ ap (λ es. es ++ c.as_slice.result.now) c.in_ok-entries.ensures.entries
      ∙ ap (λ es. learned_entries c.args.learned.now c.args.wanted ++ es) c.as_slice.ensures.value) call;
}
