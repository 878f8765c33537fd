use Rattle.std.proofs.Common.{◌≡◌, ap, sym, ◌∙◌, Some}
use Rattle.std.specs.Prelude.{find, option_copied}
use Rattle.profile_lint.specs.Engines.{is_taken_instead}
use Rattle.profile_lint.proofs.engines.value_instead.Goals as goal

pub returns-in-Some : goal.returns-in-Some
returns-in-Some c =
    let found : find (is_taken_instead c.args.profile.now c.args.call.now c.args.value) c.args.profile.now.entries
    ≡ Some c.in-Some.entry.now = sym c.taken_instead.ensures ∙ ap option_copied c.in-Some.is in
    rw (sym c.if-has_taken.ensures) (rw found (ap (λ value. Some value) c.value.ensures))
