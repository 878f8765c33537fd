use Rattle.std.proofs.Common.{◌∙◌, ◌++◌, [], ◌∷◌, ap, take}
use Rattle.std.specs.List.{list_any}
use Rattle.cell_records.proofs.Firsts.{adds_first, adds_other, longer, seen, tells_first, tells_other}
use Rattle.cell_records.specs.Steps.{is_told}
use Rattle.cell_records.specs.Summary.{is_of, tally_of}
use Rattle.cell_records.proofs.tallies.summary.Goals as goal
use Rattle.cell_records.proofs.tallies.summary.Goals.{then-is_new+in_ok-push, else-is_new}

pub loop-place-preserved : goal.loop-place-preserved
loop-place-preserved c =
    let entries = c.args.entries.now in
    let calls = c.args.calls in
    let place = c.loop-place.place in
    let tallies = c.loop-place.tallies.items in
    let inside = c.loop-place-test.true in
    let before = c.loop-place.invariant in
    let told = seen calls entries place _ _ tallies _ c.as_slice.ensures.value c.is_new.ensures in
    elim c.if-is_new.branch [
      | then-is_new+in_ok-push w ↦
          let more = ap (λ v. v.items) w.tallies-is ∙ w.in_ok-push.ensures.items
          ∙ ap (λ n. tallies ++ record { kind = w.kind_of-kind.result; count = n; first = place } ∷ [])
          w.count.ensures
          ∙ ap (λ kind. tallies ++ tally_of calls entries place kind ∷ []) w.kind_of-kind.ensures in
          let new = told ∙ w.if-is_new.true in
          record {
            whole = rw more (adds_first calls entries tallies _ place _ inside new before.told before.whole);
            told = λ kind. ap (is_told kind) more
                ∙ tells_first calls tallies (take place entries) _ entries place new before.told kind
                ∙ ap (list_any (is_of calls kind)) (longer entries place _ inside);
          }
      | else-is_new w ↦
          let same = ap (λ v. v.items) w.tallies-is in
          let old = told ∙ w.if-is_new.false in
          record {
            whole = rw same (adds_other calls entries tallies _ place _ inside old before.told before.whole);
            told = λ kind. ap (is_told kind) same
                ∙ tells_other calls tallies (take place entries) _ old before.told kind
                ∙ ap (list_any (is_of calls kind)) (longer entries place _ inside);
          }
    ]
