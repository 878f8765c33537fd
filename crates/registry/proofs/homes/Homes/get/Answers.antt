use Rattle.std.proofs.Common.{◌∙◌, sym, ap, Some, option_map, string_bytes}
use Rattle.std.specs.Prelude.{option_copied}
use Rattle.registry.specs.Kept.{home_in}
use Rattle.registry.proofs.HomeTexts.{found_home}
use Rattle.registry.proofs.homes.Homes.get.Goals as goal

pub returns-in-Some : goal.returns-in-Some
returns-in-Some c = sym (sym (ap (λ homes. home_in homes c.args.id) c.self.view_is)
    ∙ found_home c.args.id c.self.inside.map.entries
    ∙ ap (option_map string_bytes) (sym c.get.ensures.value ∙ ap option_copied c.in-Some.is)
    ∙ ap Some (sym c.as_str.ensures.value))

pub returns-in-None : goal.returns-in-None
returns-in-None c = sym (sym (ap (λ homes. home_in homes c.args.id) c.self.view_is)
    ∙ found_home c.args.id c.self.inside.map.entries
    ∙ ap (option_map string_bytes) (sym c.get.ensures.value ∙ ap option_copied c.in-None.is))
