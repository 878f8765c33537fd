use Rattle.std.proofs.Common.{◌≡◌, ◌++◌, arith, subst, sym}
use Rattle.std.specs.Prelude.{option_to_list}
use Rattle.std.proofs.lemmas.Grind.{common_steps}
use Rattle.profile_lint.specs.Findings.{HasOverlap, HasReading}
use Rattle.profile_lint.proofs.Reports.{overlap_right, reading_left}
use Rattle.profile_lint.proofs.finder.about_engines.Goals as goal

pub returns-clause-reading : goal.returns-clause-reading
returns-clause-reading c =
    let profile = c.args.profile.now in
    let one = option_to_list c.reading_at.result in
    let more = c.in_ok-others.others.items in
    let is : c.extend_from_slice.new.self.items ≡ one ++ more = grind (arith, common_steps) in
    subst (λ finds. HasReading profile finds c.args.place) (sym is)
    (reading_left profile one more c.args.place
    (c.reading_at.ensures.all profile c.in_ok-reading.ensures))

pub returns-clause-overlaps : goal.returns-clause-overlaps
returns-clause-overlaps c second =
    let profile = c.args.profile.now in
    let one = option_to_list c.reading_at.result in
    let more = c.in_ok-others.others.items in
    let is : c.extend_from_slice.new.self.items ≡ one ++ more = grind (arith, common_steps) in
    subst (λ finds. HasOverlap profile finds c.args.place second) (sym is)
    (overlap_right profile one more c.args.place second (c.in_ok-others.ensures.all second))
