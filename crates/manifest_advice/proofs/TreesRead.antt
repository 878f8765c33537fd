-- The tree that was read, or that there is none.
use Rattle.std.proofs.Common.{◌≡◌, ℕ, List, Option, Some, None, Ok, Err, refl, sym}
use Rattle.std.specs.Prelude.{◌≢◌}
use Rattle.serde_json.specs.Data.{Data}
use Rattle.json_tree.specs.Reading.{document, or_else}
use Rattle.json_tree.specs.Tree.{tree_of}
use Rattle.json_tree.specs.declared.faults.TextFault.TheVariants.{NotJson, Memory}

some_read : (o : Option Data) (tree : Data) → or_else NotJson o ≡ Ok tree → Some tree ≡ o
some_read None tree h = absurd cc
some_read (Some found) tree h = cc

none_read : (o : Option Data) → or_else NotJson o ≡ Err NotJson → None ≡ o
none_read None h = refl
none_read (Some tree) h = absurd cc

-- a text that was read has this tree
pub tree_read : (bytes : List ℕ) (tree : Data) → document bytes ≡ Ok tree → Some tree ≡ tree_of bytes
unfolding document
tree_read bytes tree read = some_read (tree_of bytes) tree read

-- a text that is not JSON has none
pub no_tree_read : (bytes : List ℕ) → (NotJson ≢ Memory → document bytes ≡ Err NotJson)
    → None ≡ tree_of bytes
unfolding document
no_tree_read bytes read = none_read (tree_of bytes) (read (λ same. absurd cc))
