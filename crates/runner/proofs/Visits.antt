-- One more visit, and the result of a round then.
use Rattle.std.proofs.Common.{◌≡◌, ◌||◌, ◌++◌, ℕ, Bool, true, false, List, ◌∷◌, Option, None, Some, refl, ◌∙◌}
use Rattle.std.proofs.Common.{ap, subst}
use Rattle.std.specs.Option.{option_map}
use Rattle.runner.specs.declared.rounds.Visit.{Visit}
use Rattle.bpf_code.specs.declared.insn.Insn.{Insn}
use Rattle.runtime_history.specs.declared.event.Seen.{Seen}
use Rattle.runner.specs.Rounds.{Asked, AreVisits, MayVisit, last_of, seen_after}

-- a visit of a share, for equal numbers of the share
pub of_share : (b : Option (List Insn)) (r rs runner runners : ℕ) (asked : Asked) → r ≡ runner → rs ≡ runners
    → MayVisit b r rs asked → MayVisit b runner runners asked
of_share b r rs runner runners asked same sames may =
    subst (λ (n : ℕ). MayVisit b n runners asked) same (subst (λ (n : ℕ). MayVisit b r n asked) sames may)

pub visits_more : (b : Option (List Insn)) (runner runners above : ℕ) (visit : Visit) (start old new : Seen)
    (earlier : List Asked) → above ≡ last_of earlier → old ≡ seen_after start earlier
    → MayVisit b runner runners (record { above = above; visit = Some visit; old = old; new = new })
    → AreVisits b runner runners start earlier
    → AreVisits b runner runners start
    (record { above = above; visit = Some visit; old = old; new = new } ∷ earlier)
visits_more b runner runners above visit start old new earlier last behind may are =
    (refl, last, behind, may, are)

-- what is kept of it
pub kept_more : (new old start : Option (List Asked)) (one : Asked) (earlier : List Asked)
    → new ≡ option_map (λ before. one ∷ before) old
    → old ≡ option_map (λ before. earlier ++ before) start
    → new ≡ option_map (λ before. (one ∷ earlier) ++ before) start
kept_more new old None one earlier added is = added ∙ ap (option_map (λ before. one ∷ before)) is
kept_more new old (Some start) one earlier added is = added ∙ ap (option_map (λ before. one ∷ before)) is

-- it had gone on before
pub still : (was seen moves : Bool) → was ≡ true → was ≡ seen → was ≡ (seen || moves)
still was true moves went same = went
still was false moves went same = absurd cc

-- it had not
pub now : (was seen moves : Bool) → was ≡ false → was ≡ seen → moves ≡ (seen || moves)
now was true moves went same = absurd cc
now was false moves went same = refl
