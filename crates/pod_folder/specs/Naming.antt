-- How many pods of a name there were in a run, and so the uid of the next one: this project's own.
-- docs/SEMANTICS.md, "Pods of a folder".
use Rattle.std.specs.Prelude.{ℕ, ◌+◌, ◌-◌, ◌^◌, ◌&&◌, List, [], ◌∷◌, ◌++◌, Option, Some, None, min}
use Rattle.std.specs.Prelude.{position}
use Rattle.std.specs.Prelude.{slice_get, slice_set}
use Rattle.std.specs.Str.{bytes_eq}
use Rattle.manifest.specs.declared.pods.Pod.{Pod}
use Rattle.pod_folder.specs.declared.naming.Count.{Count}

pub record Names : Type 0 where
  -- the run's own name
  pub run : Option (List ℕ)
  pub counts : List Count

abbrev pub place_of_name : List Count → Pod → Option ℕ
place_of_name counts pod =
    position (λ c. bytes_eq c.name pod.name && bytes_eq c.namespace pod.namespace) counts

abbrev pub pods_of : Option Count → ℕ
pods_of None = 0
pods_of (Some count) = count.pods

abbrev pub pods_at : List Count → Option ℕ → ℕ
pods_at counts None = 0
pods_at counts (Some place) = pods_of (slice_get counts place)

-- how many pods of a pod's name were admitted
abbrev pub pods_named : List Count → Pod → ℕ
pods_named counts pod = pods_at counts (place_of_name counts pod)

-- one more, up to the largest number of 32 bits
abbrev pub one_more : ℕ → ℕ
one_more n = min (n + 1) (2 ^ 32 - 1)

-- the number of the next pod among those of its name
abbrev pub next_place : List Count → Pod → ℕ
next_place counts pod = one_more (pods_named counts pod)

abbrev pub counted : Count → Count
counted count = record { namespace = count.namespace; name = count.name; pods = one_more count.pods }

abbrev pub counted_to : List Count → ℕ → Option Count → List Count
counted_to counts place None = counts
counted_to counts place (Some count) = slice_set counts place (counted count)

abbrev pub counted_at : List Count → Option ℕ → List Count
counted_at counts None = counts
counted_at counts (Some place) = counted_to counts place (slice_get counts place)

-- after one more pod of a pod's name
abbrev pub counted_in : List Count → Pod → List Count
counted_in counts pod = counted_at counts (place_of_name counts pod)

abbrev pub known_at : List Count → Pod → Option ℕ → List Count
known_at counts pod (Some place) = counts
known_at counts pod None =
    counts ++ record { namespace = pod.namespace; name = pod.name; pods = 0 } ∷ []

-- with a count of a pod's name
abbrev pub known_in : List Count → Pod → List Count
known_in counts pod = known_at counts pod (place_of_name counts pod)
