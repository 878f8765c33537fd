use Rattle.std.proofs.Common.{◌≡◌, ◌++◌, ◌∙◌, ap, codes, string_bytes, sym}
use Rattle.fault_notes.specs.Paths.{shown_path}
use Rattle.node_watch.specs.WaitTexts.{profile_words}
use Rattle.node_watch.proofs.wait_texts.add_profile.Goals as goal

pub returns-in_ok-add_file-in-Localhost : goal.returns-in_ok-add_file-in-Localhost
returns-in_ok-add_file-in-Localhost c =
    c.in_ok-add_file-in-Localhost.ensures
    ∙ ap (λ name. string_bytes c.args.text.now ++ (codes " and profile " ++ shown_path name))
    c.as_str.ensures.value
    ∙ ap (λ profile. string_bytes c.args.text.now ++ profile_words profile) (sym c.in-Localhost.is)
