use Rattle.std.proofs.Common.{◌≡◌, ◌++◌, [], arith, subst, sym}
use Rattle.std.specs.Prelude.{All, option_to_list}
use Rattle.std.proofs.lemmas.Grind.{common_steps}
use Rattle.std.proofs.lemmas.List.Elements.{All-append, All-nil}
use Rattle.profile_lint.specs.Findings.{IsReported, IsSo}
use Rattle.profile_lint.proofs.Reports.{all_reported, so_more}
use Rattle.profile_lint.proofs.finder.about_entry.Goals as goal

pub returns-clause-so : goal.returns-clause-so
returns-clause-so c =
    let profile = c.args.profile.now in
    let one = c.need_at.result in
    let more = c.in_ok-others.others.items in
    let is : c.extend_from_slice.new.self.items ≡ option_to_list one ++ more = grind (arith, common_steps) in
    subst (All (IsSo profile)) (sym is) (All-append (IsSo profile) (option_to_list one) more
    (so_more (IsSo profile) [] one (All-nil (IsSo profile)) (c.need_at.ensures.so profile
    c.in_ok-standing.ensures)) c.in_ok-others.ensures.so)

pub returns-clause-all : goal.returns-clause-all
returns-clause-all c =
    let profile = c.args.profile.now in
    let one = c.need_at.result in
    let more = c.in_ok-others.others.items in
    let is : c.extend_from_slice.new.self.items ≡ option_to_list one ++ more = grind (arith, common_steps) in
    subst (λ finds. IsReported profile finds c.args.place) (sym is)
    (all_reported profile one more c.args.place (c.need_at.ensures.all profile c.in_ok-standing.ensures)
    c.in_ok-others.ensures.reading c.in_ok-others.ensures.overlaps)
