-- The summary of no sightings, and of one more.
use Rattle.std.proofs.Common.{◌≡◌, ℕ, ◌<◌, Bool, true, false, ◌||◌, List, [], ◌∷◌, ◌++◌, length, eqb}
use Rattle.std.proofs.Common.{arith, refl, sym, ◌∙◌}
use Rattle.std.specs.Prelude.{replicate, slice_index_or, slice_set}
use Rattle.std.proofs.lemmas.Bool.{eqb-true, cases_eq}
use Rattle.std.proofs.lemmas.Grind.{common_steps}
use Rattle.std.proofs.lemmas.List.{get_or-set_same, length-replicate, length-set}
use Rattle.std.proofs.lemmas.List.Folds.{list_any-append}
use Rattle.sys_table.specs.declared.table.TheConstants.{TABLE_LIMIT}
use Rattle.profile_learn.specs.declared.learned.Learned.{Learned}
use Rattle.profile_learn.specs.declared.sighting.Sighting.{Sighting}
use Rattle.profile_learn.specs.declared.values.Values.TheVariants.{Nothing}
use Rattle.profile_learn.specs.Kept.{IsKeptOf, IsSummary, noted}
use Rattle.profile_learn.specs.Sightings.{is_seen}
use Rattle.profile_learn.proofs.Noted.{noted_keeps}

nothing_kept : (nr : ℕ) → IsKeptOf Nothing nr []
nothing_kept nr = record { clear = refl; each = record { many = refl; same = λ value. refl } }

none_seen : (n nr : ℕ) → slice_index_or (replicate n false) nr false ≡ false
none_seen n nr = grind (arith, common_steps)

pub fresh : IsSummary (record {
  seen = replicate TABLE_LIMIT false;
  ioctl = Nothing;
  socket = Nothing;
  fcntl = Nothing;
  personality = Nothing;
  prctl = Nothing;
}) []
fresh = record {
  whole = length-replicate TABLE_LIMIT false;
  of_table = λ nr there. absurd cc;
  seen = λ nr lt. none_seen TABLE_LIMIT nr;
  ioctl = nothing_kept 16;
  socket = nothing_kept 41;
  fcntl = nothing_kept 72;
  personality = nothing_kept 135;
  prctl = nothing_kept 157;
}

seen_push : (history : List Sighting) (s : Sighting) (nr : ℕ)
    → is_seen (history ++ s ∷ []) nr ≡ (is_seen history nr || eqb s.number nr)
seen_push history s nr =
    grind (arith, common_steps, list_any-append (λ (x : Sighting). eqb x.number nr) history (s ∷ []))

seen_set : (seen : List Bool) (number nr : ℕ) (was : Bool) → number < length seen
    → slice_index_or seen nr false ≡ was
    → slice_index_or (slice_set seen number true) nr false ≡ (was || eqb number nr)
seen_set seen number nr was inside is =
    grind (arith, common_steps, cases_eq number nr, get_or-set_same seen number true false)

pub one_more : (learned : Learned) (s : Sighting) (history : List Sighting) → s.number < TABLE_LIMIT
    → IsSummary learned history → IsSummary (record {
      seen = slice_set learned.seen s.number true;
      ioctl = noted learned.ioctl 16 s;
      socket = noted learned.socket 41 s;
      fcntl = noted learned.fcntl 72 s;
      personality = noted learned.personality 135 s;
      prctl = noted learned.prctl 157 s;
    }) (history ++ s ∷ [])
one_more learned s history small is = record {
  whole = length-set learned.seen s.number true ∙ is.whole;
  of_table = λ nr there. grind (arith, common_steps, seen_push history s nr, is.of_table nr, eqb-true s.number nr);
  seen = λ nr lt. seen_set learned.seen s.number nr (is_seen history nr)
      (omega (arith, is.whole)) (is.seen nr lt)
      ∙ sym (seen_push history s nr);
  ioctl = noted_keeps learned.ioctl 16 s history is.ioctl;
  socket = noted_keeps learned.socket 41 s history is.socket;
  fcntl = noted_keeps learned.fcntl 72 s history is.fcntl;
  personality = noted_keeps learned.personality 135 s history is.personality;
  prctl = noted_keeps learned.prctl 157 s history is.prctl;
}
