-- Why a runtime refused requests, the newest cause first: this project's own, docs/SEMANTICS.md, "Why a
-- container waits".
use Rattle.std.specs.Prelude.{ℕ, ◌&&◌, ◌==◌, Bool, List, ◌∷◌, take, Option, Some, None, option_map, position}
use Rattle.std.specs.Prelude.{slice_get}
use Rattle.std.specs.List.{remove}
use Rattle.std.specs.Str.{bytes_eq}
use Rattle.refusal_causes.specs.declared.causes.Cause.{Cause}
use Rattle.refusal_causes.specs.declared.causes.TheConstants.{MAX_CAUSES}

-- the cause is that of the request with this number, about this container
abbrev pub is_of : ℕ → List ℕ → List ℕ → Cause → Bool
is_of number uid name cause = cause.number == number && (bytes_eq cause.uid uid && bytes_eq cause.name name)

-- the place of the newest cause of the request
abbrev pub place_of : ℕ → List ℕ → List ℕ → List Cause → Option ℕ
place_of number uid name causes = position (λ cause. is_of number uid name cause) causes

abbrev pub text_at : Option ℕ → List Cause → Option (List ℕ)
text_at None causes = None
text_at (Some place) causes = option_map (λ cause. cause.text) (slice_get causes place)

abbrev pub without_at : Option ℕ → List Cause → List Cause
without_at None causes = causes
without_at (Some place) causes = remove causes place

-- a new cause; the oldest one beyond the limit is dropped
abbrev pub noted : Cause → List Cause → List Cause
noted cause causes = take MAX_CAUSES (cause ∷ causes)
