use Rattle.std.proofs.Common.{◌∙◌, sym, ap, string_bytes}
use Rattle.std.specs.BTreeMap.{get}
use Rattle.std.specs.Ordering.{nat_cmp}
use Rattle.registry.specs.Kept.{home_in}
use Rattle.registry.proofs.HomeTexts.{found_home, next_mapped}
use Rattle.registry.proofs.homes.Homes.next.Goals as goal

pub returns : goal.returns
returns c = next_mapped (get nat_cmp c.self.inside.map) (home_in c.args.self.now) string_bytes
    (λ i. sym (ap (λ homes. home_in homes i) c.self.view_is) ∙ found_home i c.self.inside.map.entries)
    c.args.above c.next_key.result c.next_key.ensures
