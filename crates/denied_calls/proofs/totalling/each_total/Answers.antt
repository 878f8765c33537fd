use Rattle.std.proofs.Common.{◌≡◌, ◌∙◌, ◌++◌, [], ◌∷◌, ap, sym, refl, take, true, false}
use Rattle.std.specs.List.{list_any}
use Rattle.denied_calls.proofs.Added.{adds_first, adds_other, longer, tells_first, tells_other}
use Rattle.denied_calls.proofs.Same.{kind_again}
use Rattle.denied_calls.specs.Sightings.{is_totalled, same_kind, total_is_of, total_of}
use Rattle.denied_calls.proofs.totalling.each_total.Goals as goal
use Rattle.denied_calls.proofs.totalling.each_total.Goals.{then-not-is_totalled+in_ok-push, else-not-is_totalled}

pub loop-sighting-preserved : goal.loop-sighting-preserved
loop-sighting-preserved c =
    let all = c.args.sightings.now in
    let place = c.loop-sighting.sighting-index in
    let made = c.loop-sighting.totals.items in
    let x = c.sighting-item.result in
    let here = c.sighting-item.is in
    let inside = c.loop-sighting-test.true in
    let before = c.loop-sighting.invariant in
    let asked = ap (is_totalled x) (sym c.as_slice.ensures.value) ∙ sym c.is_totalled.ensures in
    elim c.if-not-is_totalled.branch [
      | then-not-is_totalled+in_ok-push w ↦
          let new : is_totalled x made ≡ false = asked ∙ w.if-not-is_totalled.true in
          let more = ap (λ v. v.items) w.totals-is ∙ w.in_ok-push.ensures.items
          ∙ ap (λ t. made ++ t ∷ []) w.total_of.ensures in
          record {
            whole =
                rw more (adds_first same_kind total_is_of (total_of all) all made _ place x inside here new
                before.told before.whole);
            told = λ s. ap (is_totalled s) more
                ∙ tells_first same_kind total_is_of made (take place all) x (total_of all place x) (λ y. refl)
                before.told s
                ∙ ap (list_any (λ other. same_kind other s)) (longer all place x inside here);
          }
      | else-not-is_totalled w ↦
          let old : is_totalled x made ≡ true = asked ∙ w.if-not-is_totalled.false in
          let same = ap (λ v. v.items) w.totals-is in
          record {
            whole =
                rw same (adds_other same_kind total_is_of (total_of all) all made _ place x inside here old
                before.told before.whole);
            told = λ s. ap (is_totalled s) same
                ∙ tells_other same_kind total_is_of made (take place all) x kind_again old before.told s
                ∙ ap (list_any (λ other. same_kind other s)) (longer all place x inside here);
          }
    ]
