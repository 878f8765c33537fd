-- What holds of each hint below a place, and of each hint of the list.
use Rattle.std.proofs.Common.{◌≡◌, ◌<◌, ◌≤◌, ◌+◌, ℕ, List, Some, length, get_or, slice_get, sym, subst, ◌∙◌}
use Rattle.std.proofs.Common.{arith}
use Rattle.std.proofs.lemmas.Option.{same_Some, slice_get_within, slice_get-get_or}
use borrow.Author.Count.{below_more}
use Rattle.wrong_files.specs.declared.hint.Hint.{Hint}

-- one more place, whose hint was read
pub places_read : (P : Hint → Type 0) (hints : List Hint) (at : ℕ) (d : Hint)
    → ((before : ℕ) (other : Hint) → before < at → slice_get hints before ≡ Some other → P other)
    → at < length hints → P (get_or hints at d)
    → (before : ℕ) (other : Hint) → before < at + 1 → slice_get hints before ≡ Some other → P other
places_read P hints at d so_far within here before other below found =
    below_more (λ e. (o : Hint) → slice_get hints e ≡ Some o → P o) at
    (λ e under o is. so_far e o under is)
    (λ o is. subst P (same_Some _ o (sym (slice_get-get_or hints at d within) ∙ is)) here) before
    below other found

-- all places
pub places_all : (P : Hint → Type 0) (hints : List Hint) (at : ℕ)
    → ((before : ℕ) (other : Hint) → before < at → slice_get hints before ≡ Some other → P other)
    → length hints ≤ at
    → (place : ℕ) (other : Hint) → slice_get hints place ≡ Some other → P other
places_all P hints at so_far ends place other stands =
    let within : place < length hints = slice_get_within hints place other stands in
    so_far place other (omega arith) stands
