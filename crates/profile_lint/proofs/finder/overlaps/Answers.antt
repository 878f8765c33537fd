use Rattle.std.proofs.Common.{◌≡◌, ℕ, ◌+◌, ◌<◌, ◌≤◌, refl, ap, subst, sym, ◌∙◌, arith, length}
use Rattle.std.specs.Prelude.{All, option_to_list, slice_get}
use Rattle.std.proofs.lemmas.Option.{slice_get_read, slice_get_within}
use Rattle.profile_lint.specs.Findings.{HasOverlap, IsSo}
use Rattle.profile_lint.proofs.Near.{fit_at}
use Rattle.profile_lint.proofs.Reports.{AreApartTo, apart_all, apart_more, so_more, uncompared}
use Rattle.profile_lint.proofs.finder.overlaps.Goals as goal

pub overflow_step-second : goal.overflow_step-second
overflow_step-second c =
    let profile = c.args.profile.now in
    let within : c.args.place < length profile.entries =
    slice_get_within profile.entries c.args.place c.args.entry.now c.requires.at in
    let same : length c.as_slice-entries.result.now ≡ length profile.entries =
    ap length c.as_slice-entries.ensures.value in
    grind (arith, c.as_slice-entries.type_inv)

pub overlap-requires-clause-one_fit : goal.overlap-requires-clause-one_fit
overlap-requires-clause-one_fit c = fit_at c.args.profile.now.entries c.args.place c.args.entry.now
    c.as_slice-entries.ensures.fit c.requires.at

pub overlap-requires-clause-two_at : goal.overlap-requires-clause-two_at
overlap-requires-clause-two_at c =
    ap (λ entries. slice_get entries c.loop-second.second) (sym c.as_slice-entries.ensures.value)
    ∙ slice_get_read c.as_slice-entries.result.now (length c.as_slice-entries.result.now) c.loop-second.second
    c.index-entries-second.result refl c.loop-second-test.true c.index-entries-second.is

pub returns-in-Unknown-clause-so : goal.returns-in-Unknown-clause-so
returns-in-Unknown-clause-so c =
    let profile = c.args.profile.now in
    subst (All (IsSo profile)) (sym c.in_ok-add.ensures)
    (so_more (IsSo profile) c.loop-second.found.items c.overlap_at.result c.loop-second.invariant.0
    (c.overlap_at.ensures.so profile c.in_ok-overlapping.ensures))

pub returns-in-Unknown-clause-all : goal.returns-in-Unknown-clause-all
returns-in-Unknown-clause-all c =
    let profile = c.args.profile.now in
    let one = c.overlap_at.result in
    subst (λ finds. (second : ℕ) → HasOverlap profile finds c.args.place second) (sym c.in_ok-add.ensures)
    (uncompared profile c.loop-second.found.items c.args.place one
    (c.overlap_at.ensures.unknown c.in-Unknown.is))

pub loop-second-preserved : goal.loop-second-preserved
loop-second-preserved c =
    let profile = c.args.profile.now in
    let finds = c.loop-second.found.items in
    let one = c.overlap_at.result in (
      subst (All (IsSo profile)) (sym c.in_ok-add.ensures)
          (so_more (IsSo profile) finds one c.loop-second.invariant.0
          (c.overlap_at.ensures.so profile c.in_ok-overlapping.ensures)),
      subst (λ all. AreApartTo profile all c.args.place (c.loop-second.second + 1)) (sym c.in_ok-add.ensures)
          (apart_more profile finds (option_to_list one) c.args.place c.loop-second.second
          c.loop-second.invariant.1 (c.overlap_at.ensures.all profile c.in_ok-overlapping.ensures)),
    )

pub returns-clause-all : goal.returns-clause-all
returns-clause-all c =
    let profile = c.args.profile.now in
    let same : length c.as_slice-entries.result.now ≡ length profile.entries =
    ap length c.as_slice-entries.ensures.value in
    let past : length profile.entries ≤ c.loop-second.second = grind (arith, same, c.loop-second-test.false) in
    apart_all profile c.loop-second.found.items c.args.place c.loop-second.second c.loop-second.invariant.1 past
