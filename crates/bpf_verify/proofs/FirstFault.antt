-- Code has at most one first fault.
use Rattle.std.proofs.Common.{◌≡◌, ◌<◌, ℕ, List, slice_get, sym, ap, ◌∙◌, arith}
use Rattle.std.proofs.lemmas.Option.{same_Some}
use Rattle.bpf_code.specs.declared.insn.Insn.{Insn}
use Rattle.bpf_verify.specs.declared.fault.Fault.{Fault}
use Rattle.bpf_verify.specs.declared.fault.Fault.TheVariants.{Unstored}
use Rattle.bpf_verify.specs.Sound.{AllKeepRules}
use Rattle.bpf_verify.specs.Faults.{IsFirstBroken, IsFirstUnstored, IsFirstFault, broken_by}
use Rattle.bpf_verify.specs.Faults.IsFirstFault.{is_empty, is_too_long, breaks_rule, has_no_return}
use Rattle.bpf_verify.specs.Faults.IsFirstFault.{loads_unstored}

broken_not_later : (code : List Insn) (a b : ℕ) (f g : Fault) → IsFirstBroken code a f
    → IsFirstBroken code b g → a < b → ⊥
broken_not_later code a b f g first second below =
    first.breaks (second.earlier_keep a first.insn below first.stands)

broken_same_place : (code : List Insn) (a b : ℕ) (f g : Fault) → IsFirstBroken code a f
    → IsFirstBroken code b g → a ≡ b
broken_same_place code a b f g first second =
    omega (arith, broken_not_later code a b f g first second, broken_not_later code b a g f second first)

broken_same : (code : List Insn) (a b : ℕ) (f g : Fault) → IsFirstBroken code a f → IsFirstBroken code b g
    → f ≡ g
broken_same code a b f g first second =
    let place : a ≡ b = broken_same_place code a b f g first second in
    let insn : first.insn ≡ second.insn = same_Some first.insn second.insn (sym first.stands
    ∙ ap (λ i. slice_get code i) place ∙ second.stands) in
    first.told ∙ ap (λ (x : Insn). broken_by x.op a) insn ∙ ap (λ i. broken_by second.insn.op i) place
    ∙ sym second.told

unstored_not_later : (code : List Insn) (a b : ℕ) → IsFirstUnstored code a → IsFirstUnstored code b → a < b
    → ⊥
unstored_not_later code a b first second below =
    first.unstored (second.earlier_find a first.insn below first.stands first.loads first.before first.walk)

unstored_same_place : (code : List Insn) (a b : ℕ) → IsFirstUnstored code a → IsFirstUnstored code b → a ≡ b
unstored_same_place code a b first second =
    omega (arith, unstored_not_later code a b first second, unstored_not_later code b a second first)

broken_or_kept : (code : List Insn) (a : ℕ) (f : Fault) → IsFirstBroken code a f → AllKeepRules code → ⊥
broken_or_kept code a f broken rules = broken.breaks (rules a broken.insn broken.stands)

pub IsFirstFault-unique : (code : List Insn) (f g : Fault) → IsFirstFault code f → IsFirstFault code g → f ≡ g
IsFirstFault-unique code f g (is_empty none e) (is_empty _ d) = e ∙ sym d
IsFirstFault-unique code f g (is_empty none e) (is_too_long long d) = absurd (omega (arith, none, long))
IsFirstFault-unique code f g (is_empty none e) (breaks_rule has b broken) =
    absurd (omega (arith, none, has.some))
IsFirstFault-unique code f g (is_empty none e) (has_no_return has rules last d) =
    absurd (omega (arith, none, has.some))
IsFirstFault-unique code f g (is_empty none e) (loads_unstored has rules last b unstored d) =
    absurd (omega (arith, none, has.some))
IsFirstFault-unique code f g (is_too_long long e) (is_empty none d) = absurd (omega (arith, none, long))
IsFirstFault-unique code f g (is_too_long long e) (is_too_long _ d) = e ∙ sym d
IsFirstFault-unique code f g (is_too_long long e) (breaks_rule has b broken) =
    absurd (omega (arith, long, has.short))
IsFirstFault-unique code f g (is_too_long long e) (has_no_return has rules last d) =
    absurd (omega (arith, long, has.short))
IsFirstFault-unique code f g (is_too_long long e) (loads_unstored has rules last b unstored d) =
    absurd (omega (arith, long, has.short))
IsFirstFault-unique code f g (breaks_rule has a broken) (is_empty none d) =
    absurd (omega (arith, none, has.some))
IsFirstFault-unique code f g (breaks_rule has a broken) (is_too_long long d) =
    absurd (omega (arith, long, has.short))
IsFirstFault-unique code f g (breaks_rule has a broken) (breaks_rule _ b other) =
    broken_same code a b f g broken other
IsFirstFault-unique code f g (breaks_rule has a broken) (has_no_return _ rules last d) =
    absurd (broken_or_kept code a f broken rules)
IsFirstFault-unique code f g (breaks_rule has a broken) (loads_unstored _ rules last b unstored d) =
    absurd (broken_or_kept code a f broken rules)
IsFirstFault-unique code f g (has_no_return has rules last e) (is_empty none d) =
    absurd (omega (arith, none, has.some))
IsFirstFault-unique code f g (has_no_return has rules last e) (is_too_long long d) =
    absurd (omega (arith, long, has.short))
IsFirstFault-unique code f g (has_no_return has rules last e) (breaks_rule _ b broken) =
    absurd (broken_or_kept code b g broken rules)
IsFirstFault-unique code f g (has_no_return has rules last e) (has_no_return _ _ _ d) = e ∙ sym d
IsFirstFault-unique code f g (has_no_return has rules last e) (loads_unstored _ _ returns b unstored d) =
    absurd (last returns)
IsFirstFault-unique code f g (loads_unstored has rules returns a unstored e) (is_empty none d) =
    absurd (omega (arith, none, has.some))
IsFirstFault-unique code f g (loads_unstored has rules returns a unstored e) (is_too_long long d) =
    absurd (omega (arith, long, has.short))
IsFirstFault-unique code f g (loads_unstored has rules returns a unstored e) (breaks_rule _ b broken) =
    absurd (broken_or_kept code b g broken rules)
IsFirstFault-unique code f g (loads_unstored has rules returns a unstored e) (has_no_return _ _ last d) =
    absurd (last returns)
IsFirstFault-unique code f g (loads_unstored has rules returns a unstored e)
    (loads_unstored _ _ _ b other d) =
    e ∙ ap Unstored (unstored_same_place code a b unstored other) ∙ sym d
