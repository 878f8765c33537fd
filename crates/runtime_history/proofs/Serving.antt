-- A call to a registry with the list of one sandbox is an event of the runtime.
use Rattle.std.proofs.Common.{◌≡◌, ◌≢◌, inl, inr, ℕ, if◌then◌else◌, List, Option, Some, None, refl, sym, ap}
use Rattle.std.proofs.Common.{◌∙◌, subst}
use Rattle.std.specs.Str.{bytes_eq}
use Rattle.cri_msgs.specs.declared.calls.Call.{Call}
use Rattle.cri_msgs.specs.declared.replies.Answer.{Answer}
use Rattle.cri_msgs.specs.Calls.{uid_of}
use Rattle.runtime_cell.specs.Cell.{Cell}
use Rattle.creation.specs.declared.files.FileAnswers.{FileAnswers}
use Rattle.registry.specs.declared.known.Known.{Known}
use Rattle.registry.specs.declared.known.Known.TheVariants as known
use Rattle.registry.specs.declared.registry.Registry.{Registry}
use Rattle.registry.specs.Kept.{known_in, stage_of}
use Rattle.registry.specs.Runtime.{IsKnown, Runtime}
use Rattle.registry.specs.Serves.{Serves, ServesIn, around_of, part_of}
use Rattle.registry.specs.Stands.{Agrees, IsEmptyIn, around_in, cells_of, part_in, runtime_of, sandbox_of}
use Rattle.runtime_core.specs.Stands.{LendsTo}
use Rattle.runtime_history.specs.Agreed.{HasRegistry, cells_in}
use Rattle.runtime_history.proofs.Known.{stays_known}
use Rattle.registry.proofs.Texts.{other_text, same_text, text_cases}

pub cells_there : (k : Option Known) (cells : List Cell) → IsEmptyIn (stage_of k) cells
    → cells_of k cells ≡ cells
cells_there None cells empty = sym empty
cells_there (Some (known.Live live)) cells empty = refl
cells_there (Some known.Removed) cells empty = sym empty

module _ (s : Runtime) (old new : Registry) (call : Call) (files : FileAnswers) (answer : Answer)
    (before behind : List Cell) (has : HasRegistry s old) (was : cells_in s (uid_of call) ≡ before)
    (lent : LendsTo old new call files answer before behind) where
  abbrev pub lists : List ℕ → List Cell
  lists u = if bytes_eq (uid_of call) u then behind else cells_in s u

  -- the runtime after it
  abbrev pub later : Runtime
  later = runtime_of new lists

  at_uid : lists (uid_of call) ≡ behind
  at_uid = ap (λ b. if b then behind else cells_in s (uid_of call)) (same_text (uid_of call))

  at_other : (u : List ℕ) → u ≢ uid_of call → lists u ≡ cells_in s u
  at_other u other = ap (λ b. if b then behind else cells_in s u) (other_text (uid_of call) u other)

  held : Agrees old (uid_of call) before
  held = subst (Agrees old (uid_of call)) was (has.agrees (uid_of call))

  agree_here : Agrees new (uid_of call) (lists (uid_of call))
  agree_here = subst (Agrees new (uid_of call)) (sym at_uid) (lent.keeps.agrees has.bound held)

  agree_elsewhere : (u : List ℕ) → u ≢ uid_of call → Agrees new u (lists u)
  agree_elsewhere u other = subst (Agrees new u) (sym (at_other u other)) (record {
    home = λ id. (
      (λ at. ((has.agrees u).home id).0 ((lent.spares.home has.bound held u other id).0 at)),
      λ among. (lent.spares.home has.bound held u other id).1 (((has.agrees u).home id).1 among),
    );
    rise = (has.agrees u).rise;
    empty = subst (λ k. IsEmptyIn (stage_of k) (cells_in s u)) (sym (lent.spares.known u other))
        (has.agrees u).empty;
  })

  agree : (u : List ℕ) → Agrees new u (lists u)
  agree u = elim (text_cases u (uid_of call)) [
    | inl same ↦ subst (λ v. Agrees new v (lists v)) (sym same) agree_here
    | inr other ↦ agree_elsewhere u other
  ]

  are : (u : List ℕ) → cells_in later u ≡ lists u
  are u = cells_there (known_in new.uids u) (lists u) (agree u).empty

  pub serves : Serves s call files answer later
  serves = subst (λ (x : Runtime). Serves x call files answer later) (sym has.whole) (record {
    row = subst (λ cells. ServesIn (around_in old) call files (part_in old (uid_of call) cells) answer
        (part_in new (uid_of call) (lists (uid_of call)))) (sym was)
        (subst (λ cells. ServesIn (around_in old) call files (part_in old (uid_of call) before) answer
        (part_in new (uid_of call) cells)) (sym at_uid) lent.row);
    others = λ u other. ap (λ k. sandbox_of k (lists u)) (lent.spares.known u other)
        ∙ ap (λ cells. sandbox_of (known_in old.uids u) cells) (at_other u other);
    baseline = lent.spares.baseline;
  })

  pub has_later : HasRegistry later new
  has_later = record {
    whole = ap (runtime_of new) (λ i u. sym (are u) i);
    bound = lent.keeps.bound has.bound;
    agrees = λ u. subst (Agrees new u) (sym (are u)) (agree u);
  }

  pub behind_there : cells_in later (uid_of call) ≡ behind
  behind_there = are (uid_of call) ∙ at_uid

  pub known_later : IsKnown (s.sandbox (uid_of call)).stage → IsKnown (later.sandbox (uid_of call)).stage
  known_later = stays_known (around_of s) call files (part_of s (uid_of call)) (part_of later (uid_of call))
      answer serves.row
