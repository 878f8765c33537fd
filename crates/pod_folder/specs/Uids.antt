-- The uids of pods whose manifests set none: this project's own. docs/SEMANTICS.md, "Pods of a folder".
use Rattle.std.specs.Prelude.{ℕ, nat_le, if◌then◌else◌, List, ◌++◌, codes, Option, Some, None}
use Rattle.std.specs.Fmt.{decimal}
use Rattle.manifest.specs.declared.pods.Pod.{Pod}

-- namespace and name
abbrev pub base_of : Pod → List ℕ
base_of pod = pod.namespace ++ (codes "." ++ pod.name)

-- the first pod of a name has no number, the next ones count from 2
abbrev pub numbered : List ℕ → ℕ → List ℕ
numbered base place = if nat_le place 1 then base else base ++ (codes "-" ++ decimal place)

-- the name of the run comes last
abbrev pub with_run : List ℕ → Option (List ℕ) → List ℕ
with_run text None = text
with_run text (Some run) = text ++ (codes "." ++ run)

abbrev pub uid_text : Pod → ℕ → Option (List ℕ) → List ℕ
uid_text pod place run = with_run (numbered (base_of pod) place) run
