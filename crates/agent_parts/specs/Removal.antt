-- The pods that an agent removes before it ends by itself: docs/SEMANTICS.md, "Programs".
use Rattle.std.specs.Prelude.{◌≡◌, ℕ, ◌+◌, min, List, [], ◌∷◌, ◌++◌, Option, Some, None, option_to_list}
use Rattle.worker_crew.specs.declared.pace.Ended.{Ended}
use Rattle.worker_crew.specs.declared.pace.Ended.TheVariants as ended
use Rattle.agent_parts.specs.declared.limits.TheConstants.{REMOVAL}

-- the last moment of a removal that begins now, 64 bits at most
abbrev pub last_of : ℕ → ℕ
last_of now = min (now + REMOVAL) 18446744073709551615

-- how a run with these pods to remove ends, if it ends at once
abbrev pub end_with : List (List ℕ) → Ended → Option Ended
end_with [] why = Some why
end_with (uid ∷ uids) why = None

-- how a run finally ends that ended before, as it ends again: a removal that is done leaves the first end
abbrev pub final_of : Ended → Ended → Ended
final_of first ended.Settled = first
final_of first ended.TimeUp = ended.TimeUp
final_of first ended.Endless = ended.Endless
final_of first ended.HistoryFull = ended.HistoryFull
final_of first ended.Memory = ended.Memory

abbrev pub final_after : Option Ended → Ended → Option Ended
final_after None again = None
final_after (Some first) again = Some (final_of first again)

-- the last moment of the clock: that of the removal, once it began
abbrev pub until_with : Option Ended → ℕ → ℕ → ℕ
until_with None removal until = until
until_with (Some first) removal until = removal

-- all but the last, if there is one
pub record IsWithoutLast (old new : List (List ℕ)) : Type 0 where
  pub last : Option (List ℕ)
  pub is : old ≡ new ++ option_to_list last
  pub done : last ≡ None → old ≡ []
