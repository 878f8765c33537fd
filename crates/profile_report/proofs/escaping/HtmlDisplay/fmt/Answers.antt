use Rattle.std.proofs.Common.{◌++◌, ℕ, List, codes, refl, arith, subst}
use Rattle.std.specs.Fmt.{HasWritten}
use Rattle.std.proofs.lemmas.Grind.{put_two}
use Rattle.std.proofs.lemmas.Str.{IsUtf8-past_char}
use Rattle.profile_report.specs.Escaped.{html_char}
use Rattle.profile_report.proofs.Fitting.{fits_more, stops, ends}
use Rattle.profile_report.proofs.escaping.HtmlDisplay.fmt.Goals as goal

pub returns-in_default-clause-writes : goal.returns-in_default-clause-writes
returns-in_default-clause-writes g c = λ plain ok.
    let held = c.loop-c.invariant in
    let so_far = held.1 plain in
    put_two _ _ _ _ so_far.0 (codes "..") _ so_far.1
    (c.write_str.ensures.writes so_far.1.plain ok)
    (stops so_far.0 _ _ _ c.in-Some.c c.loop-c.room held.0 c.in-Some.ensures.steps.0
    (omega (arith, c.in_default.ensures, c.len_utf8.ensures.value)) so_far.2)

pub loop-c-preserved : goal.loop-c-preserved
loop-c-preserved g c =
    let held = c.loop-c.invariant in
    let parts = c.in-Some.ensures.steps.0 in (
      IsUtf8-past_char _ _ c.in-Some.c held.0 parts,
      λ plain.
          let so_far = held.1 plain in (
            so_far.0 ++ html_char c.in-Some.c,
            put_two _ _ _ _ so_far.0 (html_char c.in-Some.c) _ so_far.1
                (c.in_ok-write.ensures.writes so_far.1.plain refl) refl,
            fits_more so_far.0 _ _ _ c.in-Some.c c.loop-c.room _ held.0 parts
                (omega (arith, c.in-Some-checked_sub.ensures, c.len_utf8.ensures.value))
                (omega (arith, c.in-Some-checked_sub.ensures, c.len_utf8.ensures.value)) so_far.2,
          ),
    )

pub returns-clause-writes : goal.returns-clause-writes
returns-clause-writes g c = λ plain ok.
    let so_far = c.loop-c.invariant.1 plain in
    subst (λ (text : List ℕ). HasWritten g.W.Write.write_str_gives c.args.f.now text c.loop-c.f)
    (ends so_far.0 _ _ c.loop-c.room c.in-None.ensures.steps.0.0 so_far.2) so_far.1
