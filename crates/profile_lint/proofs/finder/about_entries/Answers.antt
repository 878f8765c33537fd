use Rattle.std.proofs.Common.{◌≡◌, ◌+◌, ◌≤◌, ◌++◌, ap, subst, sym, arith, length}
use Rattle.std.specs.Prelude.{All}
use Rattle.std.proofs.lemmas.Grind.{common_steps}
use Rattle.std.proofs.lemmas.List.Elements.{All-append}
use Rattle.profile_lint.specs.Findings.{IsSo}
use Rattle.profile_lint.proofs.Reports.{AreReportedTo, reported_all, reported_next}
use Rattle.profile_lint.proofs.finder.about_entries.Goals as goal

pub loop-place-preserved : goal.loop-place-preserved
loop-place-preserved c =
    let profile = c.args.profile.now in
    let finds = c.loop-place.found.items in
    let more = c.in_ok-here.here.items in
    let is : c.extend_from_slice.new.self.items ≡ finds ++ more = grind (arith, common_steps) in (
      subst (All (IsSo profile)) (sym is)
          (All-append (IsSo profile) finds more c.loop-place.invariant.0 c.in_ok-here.ensures.so),
      subst (λ all. AreReportedTo profile all (c.loop-place.place + 1)) (sym is)
          (reported_next profile finds more c.loop-place.place c.loop-place.invariant.1 c.in_ok-here.ensures.all),
    )

pub returns-clause-all : goal.returns-clause-all
returns-clause-all c =
    let profile = c.args.profile.now in
    let same : length c.as_slice-place-end.result.now ≡ length profile.entries =
    ap length c.as_slice-place-end.ensures.value in
    let past : length profile.entries ≤ c.loop-place.place = grind (arith, same, c.loop-place-test.false) in
    reported_all profile c.loop-place.found.items c.loop-place.place c.loop-place.invariant.1 past
