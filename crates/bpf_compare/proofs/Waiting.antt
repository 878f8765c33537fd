-- The calls of the paths that wait.
use Rattle.std.proofs.Common.{◌≡◌, ℕ, ◌-◌, ◌⊎◌, inl, inr, List, [], ◌∷◌, ◌++◌, take, Option, Some, None}
use Rattle.std.proofs.Common.{IfSome, IfNone, refl, sym, ap, subst, ◌∙◌}
use Rattle.std.specs.Option.{option_or}
use Rattle.bpf_code.specs.declared.insn.Insn.{Insn}
use Rattle.call_data.specs.declared.sys_call.SysCall.{SysCall}
use Rattle.call_data.specs.CallData.{IsCall}
use Rattle.bpf_compare.specs.declared.path.Path.{Path}
use Rattle.bpf_compare.specs.declared.scope.Scope.{Scope}
use Rattle.bpf_compare.specs.declared.scope.Scope.TheVariants.{EveryCall, NativeCalls, Numbers, OtherArchitectures}
use Rattle.bpf_compare.specs.declared.comparison.Comparison.{Comparison}
use Rattle.bpf_compare.specs.declared.comparison.Comparison.TheVariants.{Same, Undecided}
use Rattle.bpf_compare.specs.declared.comparison.Doubt.{Doubt}
use Rattle.bpf_compare.specs.Agree.{Agree, IsOf, Says}
use Rattle.bpf_compare.specs.Paths.{Takes, TakesOne, IsHeld}

pub is_call : (scope : Scope) (call : SysCall) → IsOf scope call → IsCall call
is_call EveryCall call is = is
is_call NativeCalls call is = is.0
is_call (Numbers low high) call is = is.0
is_call OtherArchitectures call is = is.0

takes_more : (a b : List Insn) (call : SysCall) (paths : List Path) (path : Path) → TakesOne a b call paths
    → TakesOne a b call (paths ++ path ∷ [])
takes_more a b call [] path takes = absurd takes
takes_more a b call (one ∷ paths) path takes =
    elim takes [ inl here ↦ inl here | inr there ↦ inr (takes_more a b call paths path there) ]

takes_last : (a b : List Insn) (call : SysCall) (paths : List Path) (path : Path) → Takes a b call path
    → TakesOne a b call (paths ++ path ∷ [])
takes_last a b call [] path takes = inl takes
takes_last a b call (one ∷ paths) path takes = inr (takes_last a b call paths path takes)

takes_either : (a b : List Insn) (call : SysCall) (paths : List Path) (path : Path)
    → TakesOne a b call (paths ++ path ∷ []) → Takes a b call path ⊎ TakesOne a b call paths
takes_either a b call [] path takes = elim takes [ inl here ↦ inl here | inr none ↦ absurd none ]
takes_either a b call (one ∷ paths) path takes = elim takes [
  | inl here ↦ inr (inl here)
  | inr there ↦ elim (takes_either a b call paths path there)
      [ inl last ↦ inl last | inr before ↦ inr (inr before) ]
]

pub goes_on : (a b : List Insn) (call : SysCall) (old new : Path) (waiting : List Path)
    → (Takes a b call old → Takes a b call new) → IsHeld a b call old waiting → IsHeld a b call new waiting
goes_on a b call old new waiting on held = elim held [
  | inl agree ↦ inl agree
  | inr takes ↦ elim takes [ inl one ↦ inr (inl (on one)) | inr rest ↦ inr (inr rest) ]
]

pub splits : (a b : List Insn) (call : SysCall) (old new other : Path) (waiting : List Path)
    → (Takes a b call old → Takes a b call new ⊎ Takes a b call other)
    → IsHeld a b call old waiting → IsHeld a b call new (waiting ++ other ∷ [])
splits a b call old new other waiting on held = elim held [
  | inl agree ↦ inl agree
  | inr takes ↦ elim takes [
    | inl one ↦ elim (on one) [
      | inl left ↦ inr (inl left)
      | inr right ↦ inr
          (inr (takes_last a b call waiting other right))
    ]
    | inr rest ↦ inr (inr (takes_more a b call waiting other rest))
  ]
]

pub next : (a b : List Insn) (call : SysCall) (old new : Path) (waiting : List Path)
    → (Takes a b call old → Agree a b call)
    → IsHeld a b call old (waiting ++ new ∷ []) → IsHeld a b call new waiting
next a b call old new waiting agrees held = elim held [
  | inl agree ↦ inl agree
  | inr takes ↦ elim takes [
    | inl one ↦ inl (agrees one)
    | inr rest ↦ inr
        (takes_either a b call waiting new rest)
  ]
]

pub done : (a b : List Insn) (call : SysCall) (old : Path) → (Takes a b call old → Agree a b call)
    → IsHeld a b call old [] → Agree a b call
done a b call old agrees held = elim held [
  | inl agree ↦ agree
  | inr takes ↦ elim takes [ inl one ↦ agrees one | inr none ↦ absurd none ]
]

pub emptied : (before rest : List Path) (n : ℕ) → n ≡ 0 → before ≡ rest ++ [] → rest ≡ take (n - 1) before
    → before ≡ []
emptied before rest n none items left =
    items ∙ ap (λ l. l ++ []) (left ∙ ap (λ k. take (k - 1) before) none)

-- there is no doubt only if there was none before
pub no_doubt : {D : Type 0} (ended doubt both : Option D) → both ≡ option_or ended doubt → both ≡ None
    → (ended ≡ None) × (doubt ≡ None)
no_doubt None doubt both is none = (refl, sym is ∙ none)
no_doubt (Some why) doubt both is none = absurd (cc)

pub says : (scope : Scope) (a b : List Insn) (found : Comparison) (doubt : Option Doubt)
    → IfSome doubt (λ why. found ≡ Undecided why) → IfNone doubt (found ≡ Same)
    → (doubt ≡ None → (call : SysCall) → IsOf scope call → Agree a b call) → Says found scope a b
says scope a b found None told none agree = let P : Comparison → Type 0 = λ f. Says f scope a b in
    subst P (sym none) (agree refl)
says scope a b found (Some why) told none agree = let P : Comparison → Type 0 = λ f. Says f scope a b in
    subst P (sym told) tt
