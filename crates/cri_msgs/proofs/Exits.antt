-- Which exit code a list of statuses reports.
use Rattle.std.proofs.Common.{◌≡◌, ℕ, zero, suc, ◌+◌, ◌<◌, ◌≤◌, List, [], ◌∷◌, length, get_or, take, Option}
use Rattle.std.proofs.Common.{Some, None, sym, subst, arith}
use Rattle.std.specs.Prelude.{IfNone}
use Rattle.std.specs.List.{AllByRecursion, Any}
use Rattle.std.proofs.lemmas.List.{take_all}
use Rattle.cri_msgs.specs.declared.keys.ContainerMetadata.{ContainerMetadata}
use Rattle.cri_msgs.specs.declared.lists.ListedStatus.{ListedStatus}
use Rattle.cri_msgs.specs.Tells.{IsExitOf, IsSilentOn}
use Rattle.cri_msgs.proofs.Entries.{fits_more}

pub told_at : (container : ContainerMetadata) (code : ℕ) (list : List ListedStatus) (i : ℕ) (x : ListedStatus)
    → i < length list → x ≡ get_or list i x → IsExitOf container code x → Any (IsExitOf container code) list
told_at container code list i x lt is told = (i, x, lt, sym is, told)

pub silent_more : (container : ContainerMetadata) (list : List ListedStatus) (i : ℕ) (x : ListedStatus)
    → i < length list → x ≡ get_or list i x → AllByRecursion (IsSilentOn container) (take i list)
    → IsSilentOn container x → AllByRecursion (IsSilentOn container) (take (i + 1) list)
silent_more container list i x lt is all here = fits_more (IsSilentOn container) list i x lt is all here

silent_at : (container : ContainerMetadata) (code : ℕ) (list : List ListedStatus) (i : ℕ) (x : ListedStatus)
    → AllByRecursion (IsSilentOn container) list → i < length list → get_or list i x ≡ x
    → IsExitOf container code x → ⊥
unfolding IsSilentOn
silent_at container code [] i x all lt is told = omega (arith, lt)
silent_at container code (y ∷ list) zero x all lt is told =
    all.0 code (subst (IsExitOf container code) (sym is) told)
silent_at container code (y ∷ list) (suc i) x all lt is told =
    silent_at container code list i x all.1 (omega (arith, lt)) is told

pub silent_all : (container : ContainerMetadata) (list : List ListedStatus) (n : ℕ) → length list ≤ n
    → AllByRecursion (IsSilentOn container) (take n list) → (code : ℕ) → Any (IsExitOf container code) list
    → ⊥
silent_all container list n enough all code told =
    let whole = subst (AllByRecursion (IsSilentOn container)) (take_all n list enough) all in
    silent_at container code list told.0 told.1 whole told.2 told.3 told.4

-- if a list reports none, neither does a pair with it
pub silent_pair : (P : Type 0) (T : ℕ → Type 0) (r : Option ℕ) → IfNone r ((code : ℕ) → T code → ⊥)
    → IfNone r ((code : ℕ) → P × T code → ⊥)
silent_pair P T None h = λ code both. h code both.1
silent_pair P T (Some code) h = tt
