-- What the members of a text's tree show: OCI runtime-spec 1.1, config.md (`ociVersion`) and config-linux
-- (`defaultAction`); Kubernetes 1.27, required fields of an object (`apiVersion`, `kind`). `steps` is own.
use Rattle.std.specs.Prelude.{ℕ, List, Bool, false, ◌&&◌, codes, Option, Some, None}
use Rattle.serde_json.specs.Data.{Data}
use Rattle.json_tree.specs.Tree.{has, tree_of}

-- there is a tree, and it passes
abbrev pub passes : (Data → Bool) → Option Data → Bool
passes test None = false
passes test (Some tree) = test tree

abbrev pub is_config : List ℕ → Bool
is_config bytes = passes (has (codes "ociVersion")) (tree_of bytes)

abbrev pub is_manifest : List ℕ → Bool
is_manifest bytes = passes (λ tree. has (codes "apiVersion") tree && has (codes "kind") tree) (tree_of bytes)

abbrev pub is_profile : List ℕ → Bool
is_profile bytes = passes (has (codes "defaultAction")) (tree_of bytes)

abbrev pub is_script : List ℕ → Bool
is_script bytes = passes (has (codes "steps")) (tree_of bytes)
