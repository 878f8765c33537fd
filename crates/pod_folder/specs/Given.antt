-- Whether a manifest sets the uid of its pod: Kubernetes 1.27, API reference, `ObjectMeta`.
use Rattle.std.specs.Prelude.{codes, Bool, false, Option, Some, None, Result, Ok, Err}
use Rattle.serde_json.specs.Data.{Data}
use Rattle.json_tree.specs.Tree.{has, member}
use Rattle.json_tree.specs.declared.faults.TextFault.{TextFault}

abbrev pub has_uid : Option Data → Bool
has_uid (Some metadata) = has (codes "uid") metadata
has_uid None = false

-- by a manifest's tree, if its text has one
abbrev pub gives_uid : Result Data TextFault → Bool
gives_uid (Ok tree) = has_uid (member (codes "metadata") tree)
gives_uid (Err fault) = false
