use Rattle.std.proofs.Common.{ap, ◌∙◌, rules}
use Rattle.std.proofs.lemmas.Fn.{filter_same}
use Rattle.wrong_files.specs.Texts.{without_space}
use Rattle.wrong_files.proofs.filters.without_space.Goals as goal

pub returns : goal.returns
returns c = filter_same _ _ _ (λ x b f' k. search rules) _ _ c.retain.ensures.filtered
    ∙ ap without_space c.in_ok-text.ensures.items
