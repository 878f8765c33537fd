-- The entries that name a number, as rules.
use Rattle.compile.proofs.Common.{◌≡◌, ℕ, ◌+◌, ◌*◌, ◌≤◌, ◌<◌, ◌&&◌, Bool, true, false, cond, List, length}
use Rattle.compile.proofs.Common.{drop, get_or, refl, sym, ap, ◌∙◌, arith, at_drop_more, All, SysCall, IsCall}
use Rattle.compile.proofs.Common.{Decision, Entry, value_of, all_hold, decision_of, names, Rule}
use Rattle.compile.proofs.Common.{conditions_at, first_value, size_of_rules, added_of}
use Rattle.compile.specs.Rooms.{IsFit}
use Rattle.compile.proofs.Deciding.{decision_from}

-- the rules of some entries, before those that are still to come
pub record RulesSoFar (entries left : List Entry) (rules : List Rule) (nr : ℕ) : Type 0 where
  pub same : (call : SysCall) (last : Decision) → IsCall call
      → first_value rules (value_of (decision_of left last nr call)) call
      ≡ value_of (decision_of entries last nr call)
  pub size : size_of_rules rules + 6 * conditions_at left nr ≤ 6 * conditions_at entries nr
  pub added : size_of_rules rules + length rules + added_of left nr ≤ added_of entries nr
  pub fit : All IsFit rules

value_cond : (b : Bool) (one other : Decision)
    → cond b (value_of one) (value_of other) ≡ value_of (cond b one other)
value_cond true one other = refl
value_cond false one other = refl

cond_parts : (b : Bool) (n : ℕ) → cond b (1 + 6 * n) 0 ≡ cond b 1 0 + 6 * cond b n 0
cond_parts true n = omega arith
cond_parts false n = omega arith

pub conditions_from : (entries : List Entry) (nr at : ℕ) (entry : Entry) → at < length entries
    → entry ≡ get_or entries at entry
    → conditions_at (drop at entries) nr
    ≡ cond (names entry nr) (length entry.conds) 0 + conditions_at (drop (at + 1) entries) nr
conditions_from entries nr at entry inside is =
    at_drop_more (λ es. conditions_at es nr) entries at entry inside
    ∙ ap (λ (e : Entry). cond (names e nr) (length e.conds) 0 + conditions_at (drop (at + 1) entries) nr)
    (sym is)

pub added_from : (entries : List Entry) (nr at : ℕ) (entry : Entry) → at < length entries
    → entry ≡ get_or entries at entry
    → added_of (drop at entries) nr
    ≡ cond (names entry nr) (1 + 6 * length entry.conds) 0 + added_of (drop (at + 1) entries) nr
added_from entries nr at entry inside is =
    at_drop_more (λ es. added_of es nr) entries at entry inside
    ∙ ap (λ (e : Entry). cond (names e nr) (1 + 6 * length e.conds) 0 + added_of (drop (at + 1) entries) nr)
    (sym is)

pub one_more : (entries : List Entry) (rules more : List Rule) (nr at : ℕ) (entry : Entry)
    → at < length entries → entry ≡ get_or entries at entry
    → RulesSoFar entries (drop at entries) rules nr
    → ((call : SysCall) (other : ℕ) → IsCall call → first_value more other call ≡ first_value rules
    (cond (names entry nr && all_hold entry call) (value_of entry.decision) other) call)
    → size_of_rules more ≤ size_of_rules rules + 6 * cond (names entry nr) (length entry.conds) 0
    → length more ≤ length rules + cond (names entry nr) 1 0 → All IsFit more
    → RulesSoFar entries (drop (at + 1) entries) more nr
one_more entries rules more nr at entry inside is before holds size many fit = record {
  same = λ call last is_call. holds call (value_of (decision_of (drop (at + 1) entries) last nr call)) is_call
      ∙ ap (λ n. first_value rules n call) (value_cond (names entry nr && all_hold entry call) entry.decision
      (decision_of (drop (at + 1) entries) last nr call)
      ∙ ap value_of (sym (decision_from entries last nr at call entry inside is)))
      ∙ before.same call last is_call;
  size = omega (arith, before.size, size, conditions_from entries nr at entry inside is);
  added = omega (
    arith,
    before.added,
    size,
    many,
    added_from entries nr at entry inside is,
    cond_parts (names entry nr) (length entry.conds),
  );
  fit = fit;
}
