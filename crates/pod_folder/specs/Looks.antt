-- What a look into a folder finds: this project's own. docs/SEMANTICS.md, "Pods of a folder".
use Rattle.std.specs.Prelude.{ℕ, Bool, List, Option, Some, None}
use Rattle.pod_folder.specs.declared.looks.Content.{Content}
use Rattle.pod_folder.specs.declared.looks.Content.TheVariants.{Manifest, Refused, Unread}
use Rattle.pod_folder.specs.declared.looks.Manifest.{Manifest as Described}
use Rattle.pod_folder.specs.declared.looks.Stamp.{Stamp}

-- the pod that a file asks for
abbrev pub asked_by : Content → Option Described
asked_by (Manifest described) = Some described.value
asked_by Refused = None
asked_by (Unread fault) = None

-- a file: its name, its state, the pod it asks for, and whether that pod must not be asked for again
pub record Found : Type 0 where
  pub name : List ℕ
  pub stamp : Option Stamp
  pub asks : Option Described
  pub tried : Bool
