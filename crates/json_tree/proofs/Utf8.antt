-- The test for UTF-8, and the property.
use Rattle.std.proofs.Common.{◌≡◌, ℕ, List, true, false, cond, Some, None, refl}
use Rattle.std.specs.Str.{IsUtf8, is_utf8}
use Rattle.std.proofs.lemmas.Str.{IsUtf8-from_is_utf8, is_utf8-from_IsUtf8}
use Rattle.serde_json.specs.Data.{Data}
use Rattle.serde_json.specs.Read.{read}
use Rattle.json_tree.specs.Tree.{tree_of}

-- what was read is the text's tree
pub told : (bytes : List ℕ) (tree : Data) → IsUtf8 bytes → read bytes ≡ Some tree → tree_of bytes ≡ Some tree
unfolding tree_of
told bytes tree utf8 is = rw (is_utf8-from_IsUtf8 bytes utf8) is

-- a refused text has no tree
pub untold : (bytes : List ℕ) → (IsUtf8 bytes → read bytes ≡ None) → tree_of bytes ≡ None
unfolding tree_of
untold bytes refused =
    elim (is_utf8 bytes) as (λ b. is_utf8 bytes ≡ b → cond b (read bytes) None ≡ None) [
      | true ↦ λ e.
          refused (IsUtf8-from_is_utf8 bytes e)
      | false ↦ λ e. refl
    ] refl
