-- How often a folder of manifests is read, and which texts are manifests: this project's own.
-- docs/SEMANTICS.md, "Pods of a folder".
use Rattle.std.specs.Prelude.{◌≡◌, ℕ, ◌*◌, List, min, max}
use Rattle.json_tree.specs.Reading.{document}
use Rattle.manifest.specs.Pod.{ReadsPod}
use Rattle.pod_folder.specs.declared.looks.Manifest.{Manifest}
use Rattle.pod_folder.specs.Given.{gives_uid}

-- the milliseconds from the beginning of a look to the next one: at least a second, at most ten seconds, and
-- between these enough that looks take less than a hundredth of the time
abbrev pub rest_after : ℕ → ℕ
rest_after spent = min (max (125 * spent) 1000) 10000

-- a text that reads as this pod, and whether it sets the pod's uid
abbrev pub IsManifest : List ℕ → Manifest → Type 0
IsManifest text manifest = ReadsPod text manifest.pod × (manifest.gives_uid ≡ gives_uid (document text))
