-- The output for a pod: for each container, init ones first, the profile that it gets. This project's own:
-- docs/SEMANTICS.md, "Programs".
use Rattle.std.specs.Prelude.{ℕ, List, ◌++◌, codes, Bool, Option}
use Rattle.manifest.specs.declared.containers.Container.{Container}
use Rattle.manifest.specs.declared.pods.Pod.{Pod}
use Rattle.manifest.specs.declared.profiles.SeccompProfile.{SeccompProfile}
use Rattle.manifest.specs.declared.profiles.SeccompProfile.TheVariants.{RuntimeDefault, Localhost, Unconfined}
use Rattle.profile_pick.specs.Choice.{choice_of}
use Rattle.seccheck_output.specs.Texts.{lines_text}

abbrev pub profile_text : SeccompProfile → List ℕ
profile_text RuntimeDefault = codes "RuntimeDefault"
profile_text (Localhost path) = codes "Localhost " ++ path
profile_text Unconfined = codes "Unconfined"

abbrev pub container_text : Option SeccompProfile → Bool → ℕ → Container → List ℕ
container_text of_pod seccomp_default place container =
    container.name ++ (codes " " ++ profile_text (choice_of of_pod container seccomp_default))

abbrev pub picked_text : Pod → Bool → List ℕ
picked_text pod seccomp_default = lines_text (container_text pod.profile seccomp_default) 0 pod.containers.all
