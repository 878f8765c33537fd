-- The parts that the loop goes over are those between slashes.
use Rattle.std.proofs.Common.{codes, arith, rules}
use Rattle.std.specs.Str.{bytes_eq}
use Rattle.std.proofs.lemmas.Iterator.Search.{any_from_yields_List}
use Rattle.std.proofs.lemmas.Iterator.Splits.{YieldsList-from_str_split}
use borrow.Author.Tests.{tests}
use Rattle.manifest.specs.Texts.{climbs}
use Rattle.manifest.proofs.rules.climbs.Goals as goal

pub returns : goal.returns
unfolding climbs
returns c =
    any_from_yields_List (λ part. bytes_eq part (codes "..")) _ _ _ c.any.ensures.ran
    (YieldsList-from_str_split 47 c.args.text.now
    (omega arith) c.split.ensures.text c.split.ensures.has_more c.split.ensures.pattern) (λ x b q k.
    search (rules, tests))
