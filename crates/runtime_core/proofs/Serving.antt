-- A change of one sandbox is a step of the runtime, and all kept data still agrees.
use Rattle.std.proofs.Common.{◌≡◌, ◌≢◌, inl, inr, ℕ, List, [], unwrap_or, sym, ap, ◌∙◌, subst}
use Rattle.cri_msgs.specs.declared.calls.Call.{Call}
use Rattle.cri_msgs.specs.declared.replies.Answer.{Answer}
use Rattle.runtime_cell.specs.Cell.{Cell}
use Rattle.creation.specs.declared.files.FileAnswers.{FileAnswers}
use Rattle.registry.specs.declared.registry.Registry.{Registry}
use Rattle.registry.specs.Kept.{known_in, stage_of}
use Rattle.cri_msgs.specs.Calls.{uid_of}
use Rattle.registry.specs.Serves.{Serves, ServesIn}
use Rattle.registry.specs.Stands.{Agrees, IsEmptyIn, around_in, part_in, runtime_of, sandbox_of, stages_in}
use Rattle.registry.proofs.Texts.{text_cases}
use Rattle.runtime_core.specs.Stands.{IsListFor, IsWhole, LendsTo, cells_in, list_in}

module _ (old new : Registry) (lists later : List (List ℕ × List Cell)) (call : Call) (files : FileAnswers)
    (answer : Answer) (before behind : List Cell)
    (whole : IsWhole old lists) (was : cells_in lists (uid_of call) ≡ before)
    (is : cells_in later (uid_of call) ≡ behind)
    (others : (u : List ℕ) → u ≢ uid_of call → list_in later u ≡ list_in lists u)
    (lent : LendsTo old new call files answer before behind)
    (listed : IsListFor (stages_in new (uid_of call)) (list_in later (uid_of call))) where
  pub serves : Serves (runtime_of old (cells_in lists)) call files answer (runtime_of new (cells_in later))
  serves = record {
    row = subst (λ cells. ServesIn (around_in old) call files (part_in old (uid_of call) cells) answer
        (part_in new (uid_of call) (cells_in later (uid_of call)))) (sym was)
        (subst (λ cells. ServesIn (around_in old) call files (part_in old (uid_of call) before) answer
        (part_in new (uid_of call) cells)) (sym is) lent.row);
    others = λ u other. ap (λ k. sandbox_of k (cells_in later u)) (lent.spares.known u other)
        ∙ ap (λ l. sandbox_of (known_in old.uids u) (unwrap_or l [])) (others u other);
    baseline = lent.spares.baseline;
  }

  here : Agrees new (uid_of call) (cells_in later (uid_of call))
  here = subst (Agrees new (uid_of call)) (sym is)
      (lent.keeps.agrees whole.bound (subst (Agrees old (uid_of call)) was (whole.agrees (uid_of call))))

  held : Agrees old (uid_of call) before
  held = subst (Agrees old (uid_of call)) was (whole.agrees (uid_of call))

  elsewhere : (u : List ℕ) → u ≢ uid_of call → Agrees new u (cells_in later u)
  elsewhere u other = subst (Agrees new u) (sym (ap (λ l. unwrap_or l []) (others u other))) (record {
    home = λ id. (
      (λ at. ((whole.agrees u).home id).0 ((lent.spares.home whole.bound held u other id).0 at)),
      λ among. (lent.spares.home whole.bound held u other id).1 (((whole.agrees u).home id).1 among),
    );
    rise = (whole.agrees u).rise;
    empty = subst (λ k. IsEmptyIn (stage_of k) (cells_in lists u)) (sym (lent.spares.known u other))
        (whole.agrees u).empty;
  })

  pub whole_still : IsWhole new later
  whole_still = record {
    bound = lent.keeps.bound whole.bound;
    agrees = λ u. elim (text_cases u (uid_of call)) [
      | inl same ↦ subst (λ v. Agrees new v (cells_in later v)) (sym same) here
      | inr other ↦ elsewhere u other
    ];
    listed = λ u. elim (text_cases u (uid_of call)) [
      | inl same ↦ subst (λ v. IsListFor (stages_in new v) (list_in later v)) (sym same) listed
      | inr other ↦ subst (λ k. IsListFor (stage_of k) (list_in later u)) (sym (lent.spares.known u other))
          (subst (IsListFor (stages_in old u)) (sym (others u other)) (whole.listed u))
    ];
  }
