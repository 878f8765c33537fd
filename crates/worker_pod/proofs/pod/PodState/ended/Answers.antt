use Rattle.std.proofs.Common.{◌≡◌, ℕ, ◌+◌, ◌++◌, List, length, take, drop, ap, subst, sym, ◌∙◌, append-nil}
use Rattle.std.proofs.Common.{arith, rules}
use Rattle.std.proofs.Math.ListN.{drop_of_length-le}
use Rattle.std.proofs.Math.Seq.{take-length}
use Rattle.worker_pod.specs.Past.{Kept}
use Rattle.worker_pod.specs.Tracks.{AllWithin}
use Rattle.worker_pod.proofs.Begun.{all_grown}
use Rattle.worker_pod.proofs.pod.PodState.ended.Goals as goal

-- a list put back over all of a list replaces it
all_new : {A : Type 0} (len : ℕ) (new old : List A) → length new ≡ length old → len ≡ length old
    → take len (new ++ drop (length new) old) ≡ new
all_new len new old same counted =
    ap (λ rest. take len (new ++ rest)) (drop_of_length-le old (omega (arith, same)))
    ∙ ap (take len) (append-nil new)
    ∙ ap (λ (n : ℕ). take n new) (counted ∙ sym same)
    ∙ take-length new

pub returns-clause-begun : goal.returns-clause-begun
returns-clause-begun c = λ most few.
    let old : AllWithin most c.as_mut_slice.result.now = subst (AllWithin most)
    (sym (c.as_mut_slice.ensures.value ∙ ap (λ (k : Kept). k.tracks) c.self.view_is)) few in
    subst (AllWithin (most + 1)) (sym (all_new c.self.inside.tracks.len _ c.self.inside.tracks.items
    (search rules) (search rules)))
    (all_grown c.args.now c.args.request.now c.args.outcome c.as_slice.result.now c.as_mut_slice.result.now _
    c.in_ok-tracks_ended.ensures.ok most old)
