-- The lines of one more pod of a node, and of one more container of a pod.
use Rattle.std.proofs.Common.{◌≡◌, ℕ, ◌+◌, ◌<◌, zero, suc, false, List, [], ◌∷◌, ◌++◌, Some, is_some}
use Rattle.std.proofs.Common.{slice_get, get_or, length, map, take, sym, ap, ◌∙◌, refl, arith, append_assoc}
use Rattle.std.proofs.Common.{add-one}
use Rattle.std.proofs.lemmas.List.{append-nil}
use Rattle.std.specs.List.{flat_map, zip}
use Rattle.lifecycle.specs.declared.phases.Phase.{Phase}
use Rattle.lifecycle.specs.declared.track.Track.{Track}
use Rattle.manifest.specs.declared.pods.Pod.{Pod}
use Rattle.worker_pod.specs.Next.{phase_in}
use Rattle.node_watch.specs.declared.forms.Form.{Form}
use Rattle.node_watch.specs.declared.counts.Counted.{Counted}
use Rattle.node_watch.specs.declared.reasons.Reason.{Reason}
use Rattle.worker_core.specs.declared.slots.Slot.{Slot}
use Rattle.agent_parts.specs.Table.{pod_lines, slot_lines}

more : (form : Form) (reasons : List Reason) (counts : List Counted) (slots : List Slot) (place : ℕ)
    (pod : Pod) (tracks : List Track) (phase : Phase)
    → slice_get (map (λ slot. slot.state.pod) slots) place ≡ Some pod
    → slice_get (map (λ slot. slot.state.tracks) slots) place ≡ Some tracks
    → slice_get (map (λ slot. phase_in slot.state) slots) place ≡ Some phase
    → flat_map (slot_lines form reasons counts) (take (suc place) slots)
    ≡ flat_map (slot_lines form reasons counts) (take place slots)
    ++ pod_lines form reasons counts pod tracks phase
more form reasons counts [] place pod tracks phase p t h = absurd cc
more form reasons counts (slot ∷ slots) zero pod tracks phase p t h =
    let same : slot_lines form reasons counts slot ≡ pod_lines form reasons counts pod tracks phase = cc in
    append-nil (slot_lines form reasons counts slot) ∙ same
more form reasons counts (slot ∷ slots) (suc place) pod tracks phase p t h =
    ap (λ rest. slot_lines form reasons counts slot ++ rest)
    (more form reasons counts slots place pod tracks phase p t h)
    ∙ sym (append_assoc (slot_lines form reasons counts slot)
    (flat_map (slot_lines form reasons counts) (take place slots)) (pod_lines form reasons counts pod tracks phase))

pub one_more_pod : (form : Form) (reasons : List Reason) (counts : List Counted) (slots : List Slot)
    (place : ℕ) (pod : Pod) (tracks : List Track) (phase : Phase)
    → slice_get (map (λ slot. slot.state.pod) slots) place ≡ Some pod
    → slice_get (map (λ slot. slot.state.tracks) slots) place ≡ Some tracks
    → slice_get (map (λ slot. phase_in slot.state) slots) place ≡ Some phase
    → flat_map (slot_lines form reasons counts) (take (place + 1) slots)
    ≡ flat_map (slot_lines form reasons counts) (take place slots)
    ++ pod_lines form reasons counts pod tracks phase
one_more_pod form reasons counts slots place pod tracks phase p t h =
    ap (λ n. flat_map (slot_lines form reasons counts) (take n slots)) (add-one place)
    ∙ more form reasons counts slots place pod tracks phase p t h

-- there is none after the last one
none : {A : Type 0} (xs : List A) (place : ℕ) → is_some (slice_get xs place) ≡ false
    → take (suc place) xs ≡ take place xs
none [] zero e = refl
none [] (suc place) e = refl
none (x ∷ xs) zero e = absurd cc
none (x ∷ xs) (suc place) e = ap (λ rest. x ∷ rest) (none xs place e)

pub no_more : {A : Type 0} (xs : List A) (place : ℕ) → is_some (slice_get xs place) ≡ false
    → take (place + 1) xs ≡ take place xs
no_more xs place e = ap (λ n. take n xs) (add-one place) ∙ none xs place e

rows_more : {A B : Type 0} (line : A × B → List ℕ) (xs : List A) (ys : List B) (place : ℕ) (x : A) (y : B)
    → place < length xs → place < length ys → x ≡ get_or xs place x → y ≡ get_or ys place y
    → flat_map line (take (suc place) (zip xs ys)) ≡ flat_map line (take place (zip xs ys)) ++ line (x, y)
rows_more line [] ys place x y in_xs in_ys is_x is_y = absurd (omega (arith, in_xs))
rows_more line (z ∷ xs) [] place x y in_xs in_ys is_x is_y = absurd (omega (arith, in_ys))
rows_more line (z ∷ xs) (w ∷ ys) zero x y in_xs in_ys is_x is_y =
    append-nil (line (z, w)) ∙ (λ i. line (sym is_x i, sym is_y i))
rows_more line (z ∷ xs) (w ∷ ys) (suc place) x y in_xs in_ys is_x is_y =
    ap (λ rest. line (z, w) ++ rest) (rows_more line xs ys place x y (omega (arith, in_xs))
    (omega (arith, in_ys)) is_x is_y)
    ∙ sym (append_assoc (line (z, w)) (flat_map line (take place (zip xs ys))) (line (x, y)))

pub one_more_row : {A B : Type 0} (line : A × B → List ℕ) (xs : List A) (ys : List B) (place : ℕ) (x : A)
    (y : B)
    → place < length xs → place < length ys → x ≡ get_or xs place x → y ≡ get_or ys place y
    → flat_map line (take (place + 1) (zip xs ys)) ≡ flat_map line (take place (zip xs ys)) ++ line (x, y)
one_more_row line xs ys place x y in_xs in_ys is_x is_y =
    ap (λ n. flat_map line (take n (zip xs ys))) (add-one place)
    ∙ rows_more line xs ys place x y in_xs in_ys is_x is_y
