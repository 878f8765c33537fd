use Rattle.std.proofs.Common.{◌++◌, ℕ, List, refl, subst}
use Rattle.std.specs.Fmt.{HasWritten}
use Rattle.std.proofs.lemmas.Grind.{put_two}
use Rattle.std.proofs.lemmas.Str.{IsUtf8-past_char}
use Rattle.json_place.specs.Quoted.{escaped}
use Rattle.fault_notes.proofs.Names.{one_more, ends}
use Rattle.fault_notes.proofs.paths.ShownPathDisplay.fmt.Goals as goal

pub loop-c-preserved : goal.loop-c-preserved
loop-c-preserved g c =
    let held = c.loop-c.invariant in
    let parts = c.in-Some.ensures.steps.0 in (
      IsUtf8-past_char _ _ c.in-Some.c held.0 parts,
      λ plain.
          let so_far = held.1 plain in (
            so_far.0 ++ escaped c.in-Some.c,
            put_two _ _ _ _ so_far.0 (escaped c.in-Some.c) _ so_far.1
                (c.in_ok-write.ensures.writes so_far.1.plain refl) refl,
            one_more so_far.0 _ _ _ c.in-Some.c held.0 parts so_far.2,
          ),
    )

pub returns-clause-writes : goal.returns-clause-writes
returns-clause-writes g c = λ plain ok.
    let so_far = c.loop-c.invariant.1 plain in
    subst (λ (text : List ℕ). HasWritten g.W.Write.write_str_gives c.args.f.now text c.loop-c.f)
    (ends so_far.0 _ _ c.in-None.ensures.steps.0.0 so_far.2) so_far.1
