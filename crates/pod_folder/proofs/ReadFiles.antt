-- What a file asks for is what was read in it.
use Rattle.std.proofs.Common.{◌≡◌, ℕ, List, Option, Some, sym, subst}
use Rattle.node_io.specs.Held.{Held, Tells}
use Rattle.pod_folder.specs.declared.looks.Manifest.{Manifest}
use Rattle.pod_folder.specs.Looking.{IsRead}

pub is_read : (held : Option Held) (reads : List ℕ → Manifest
    → Type 0) (name bytes : List ℕ) (manifest : Manifest)
    (asks : Option Manifest) → asks ≡ Some manifest → Tells held name (λ found. found ≡ Some bytes)
    → reads bytes manifest → IsRead held reads name asks
is_read held reads name bytes manifest asks is tells read =
    subst (IsRead held reads name) (sym is) (bytes, tells, read)
