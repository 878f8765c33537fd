-- Diagrams of rules, and the steps through them.
use Rattle.compile.proofs.Common.{◌≡◌, ℕ, ◌+◌, ◌-◌, ◌^◌, ◌≤◌, ◌<◌, List, ap, subst, ◌∙◌, arith, inl, inr}
use Rattle.compile.proofs.Common.{IsTrue, nat_le, nat_tests, cases_lt, Insn, NOWHERE, SysCall, first_value}
use Rattle.compile.proofs.Common.{WayGives, Way, Rule, GivesAlways}
use Rattle.compile.proofs.Building.{gives_more}
use Rattle.compile.proofs.Weights.{pow_grows}

pub less_power : (l d : ℕ) → 2 ^ l < 2 ^ d → l < d
less_power l d less = elim (cases_lt l d) [
  | inl below ↦ below
  | inr above ↦
      let up : (l - d) + d ≡ l = omega arith in
      absurd (omega (arith, less, pow_grows d (l - d), ap (λ n. 2 ^ n) up))
]

pub quick : (one other : ℕ) → IsTrue (nat_le one other) → one ≤ other
quick one other holds = grind (arith, nat_tests)

pub told_way : (code : List Insn) (way : Way) (call : SysCall) (slice rules : List Rule)
    (value other told most : ℕ) → slice ≡ rules → value ≡ other → first_value rules other call ≡ told
    → way.most ≤ most → WayGives NOWHERE code call way (first_value slice value call)
    → GivesAlways code call way.at told most
told_way code way call slice rules value other told most same is says larger gives =
    let P : ℕ → Type 0 = λ v. GivesAlways code call way.at v most in
    subst P (ap (λ rs. first_value rs value call) same ∙ ap (λ v. first_value rules v call) is ∙ says)
    (λ a. gives_more code call way.at a _ way.most most (gives a (λ inside. absurd (omega (arith, inside))))
    larger)
