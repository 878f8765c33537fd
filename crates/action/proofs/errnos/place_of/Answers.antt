use Rattle.std.proofs.Common.{sym, ap, ◌∙◌}
use Rattle.std.specs.Prelude.{position}
use Rattle.std.specs.Str.{bytes_eq}
use Rattle.action.specs.Errnos.{place_of}
use Rattle.action.proofs.Places.{position_of_map}
use Rattle.action.proofs.errnos.place_of.Goals as goal

pub returns : goal.returns
unfolding place_of
returns c =
    c.place_in.ensures ∙ sym (position_of_map (λ text. text.now) (λ text. bytes_eq text c.args.name.now)
    c.errnos.result.now) ∙ ap (position (λ text. bytes_eq text c.args.name.now)) c.errnos.ensures
