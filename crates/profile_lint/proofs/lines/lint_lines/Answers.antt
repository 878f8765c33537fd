use Rattle.std.proofs.Common.{◌++◌, ◌∙◌, ap, string_bytes}
use Rattle.profile_lint.specs.Text.{newer_line, others_line}
use Rattle.profile_lint.proofs.Joined.{joined}
use Rattle.profile_lint.proofs.lines.lint_lines.Goals as goal

pub returns : goal.returns
returns c = joined _ _ _ _ _ _ _ _ _ c.new-text.ensures.bytes c.in_ok-add_text.ensures
    (c.in_ok-add_others.ensures
    ∙ ap (λ n. string_bytes c.add_text.new.text ++ others_line n) c.counted.ensures)
    (c.in_ok-add_newer.ensures
    ∙ ap (λ n. string_bytes c.add_others.new.text ++ newer_line n c.args.default) c.counted-2.ensures)
    c.in_ok-add_profile.ensures
