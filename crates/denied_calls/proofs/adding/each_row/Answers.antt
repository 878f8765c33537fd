use Rattle.std.proofs.Common.{◌≡◌, ◌∙◌, ◌++◌, [], ◌∷◌, Some, ap, sym, take, Bool, true, false}
use Rattle.std.specs.Prelude.{slice_get}
use Rattle.std.specs.List.{list_any}
use Rattle.std.proofs.lemmas.Option.{slice_get-get_or}
use Rattle.denied_calls.specs.declared.adding.Row.{Row}
use Rattle.denied_calls.specs.declared.sighting.Sighting.{Sighting}
use Rattle.denied_calls.proofs.Added.{adds_first, adds_other, longer, tells_first, tells_other}
use Rattle.denied_calls.proofs.Same.{call_again}
use Rattle.denied_calls.specs.Sightings.{is_told, row_of, same_call, same_call_at, same_here}
use Rattle.denied_calls.proofs.adding.each_row.Goals as goal
use Rattle.denied_calls.proofs.adding.each_row.Goals.{then-not-is_told+in_ok-push, else-not-is_told}

pub loop-place-preserved : goal.loop-place-preserved
loop-place-preserved c =
    let all = c.args.sightings.now in
    let place = c.loop-place.place in
    let rows = c.loop-place.rows.items in
    let x = c.index-sightings-place.result in
    let here = c.index-sightings-place.is in
    let inside = c.loop-place-test.true in
    let before = c.loop-place.invariant in
    let of : Sighting → Row → Bool = λ s row. same_call_at all row.place s in
    let asked = ap (is_told all x) (sym c.as_slice.ensures.value) ∙ sym c.is_told.ensures in
    elim c.if-not-is_told.branch [
      | then-not-is_told+in_ok-push w ↦
          let new : is_told all x rows ≡ false = asked ∙ w.if-not-is_told.true in
          let more = ap (λ v. v.items) w.rows-is ∙ w.in_ok-push.ensures.items
          ∙ ap (λ n. rows ++ record { count = record { 0 = n }; place = place } ∷ []) w.counted.ensures in
          let there : slice_get all place ≡ Some x = slice_get-get_or all place x inside ∙ ap Some (sym here) in
          record {
            whole = rw more (adds_first same_call of (row_of all) all rows _ place x inside here new before.told before.whole);
            told = λ s. ap (is_told all s) more
                ∙ tells_first same_call of rows (take place all) x _ (λ y. ap (λ o. same_here o y) there) before.told s
                ∙ ap (list_any (λ other. same_call other s)) (longer all place x inside here);
          }
      | else-not-is_told w ↦
          let old : is_told all x rows ≡ true = asked ∙ w.if-not-is_told.false in
          let same = ap (λ v. v.items) w.rows-is in
          record {
            whole = rw same (adds_other same_call of (row_of all) all rows _ place x inside here old before.told before.whole);
            told = λ s. ap (is_told all s) same
                ∙ tells_other same_call of rows (take place all) x call_again old before.told s
                ∙ ap (list_any (λ other. same_call other s)) (longer all place x inside here);
          }
    ]
